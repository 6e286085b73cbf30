-- Two results that the contract of `choughbell_covers` allows are equal: what is lent to it cannot be changed by it.
use mathlib.Core.Path.{sym, ◌∙◌}
use Rattle.contracts.specs.One.{OneResult}
use Rattle.exported.proofs.covering.choughbell_covers.Reads as covers

pub covers_one : OneResult covers.Asked covers.Learnt
covers_one κs a z z' e e' x p q = p ∙ sym q
