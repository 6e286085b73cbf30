-- Two results that the contract of the public function allows are equal, over the contract that the toolchain makes of the source.
-- What is lent to it cannot be changed by it.
use mathlib.Core.Path.{sym, ◌∙◌}
use Rattle.contracts.specs.One.{OneResult}
use Rattle.covers.proofs.covers.Reads as covers

-- `covers`
pub covers_one : OneResult covers.Asked covers.Learnt
covers_one κs a z z' e e' x p q = p ∙ sym q
