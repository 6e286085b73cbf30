-- Two results that a public function's contract allows are equal: one theorem for each function, over the contract that the toolchain makes
-- of the source. No function here is lent anything that it could change, so the result is all that it hands back.
use mathlib.Core.Path.{sym, ◌∙◌}
use Rattle.contracts.specs.One.{OneResult}
use Rattle.references.proofs.reference.reference.Reads as reference
use Rattle.references.proofs.next.next.Reads as next

-- `reference::reference`
pub reference_one : OneResult reference.Asked reference.Learnt
reference_one κs a z z' e e' x p q = p ∙ sym q

-- `next::next`
pub next_one : OneResult next.Asked next.Learnt
next_one κs a z z' e e' x p q = p ∙ sym q
