-- Two results that the public function's contract allows are equal: a theorem over the contract that the toolchain makes of the source. The
-- function is lent nothing that it could change, so the result is all that it hands back.
use mathlib.Core.Path.{sym, ◌∙◌}
use Rattle.contracts.specs.One.{OneResult}
use Rattle.attribute.proofs.has.has.Reads as has

-- `has::has`
pub has_one : OneResult has.Asked has.Learnt
has_one κs a z z' e e' x p q = p ∙ sym q
