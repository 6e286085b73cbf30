-- Two results that a public function's contract allows are equal, over the contract that the toolchain makes of the source. Nothing that is
-- lent to these functions can be changed by them.
use mathlib.Core.Path.{sym, ◌∙◌}
use Rattle.contracts.specs.One.{OneResult}
use Rattle.recall.proofs.Known.nothing.Reads as nothing
use Rattle.recall.proofs.Known.is_of.Reads as is_of_lem
use Rattle.recall.proofs.Known.made.Reads as made
use Rattle.recall.proofs.Known.renewed.Reads as renewed
use Rattle.recall.proofs.slot_of.Reads as slot_of

-- `Known::nothing`
pub nothing_one : OneResult nothing.Asked nothing.Learnt
nothing_one κs a z z' e e' x p q = p ∙ sym q

-- `Known::is_of`
pub is_of_one : OneResult is_of_lem.Asked is_of_lem.Learnt
is_of_one κs a z z' e e' x p q = p ∙ sym q

-- `Known::made`
pub made_one : OneResult made.Asked made.Learnt
made_one κs a z z' e e' x p q = p.0 ∙ sym q.0

-- `Known::renewed`
pub renewed_one : OneResult renewed.Asked renewed.Learnt
renewed_one κs a z z' e e' x p q = p.0 ∙ sym q.0

-- `slot_of`
pub slot_of_one : OneResult slot_of.Asked slot_of.Learnt
slot_of_one κs a z z' e e' x p q = p.0 ∙ sym q.0
