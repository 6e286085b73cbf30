-- `answer` meets its contract. At a line's front the lines before are sound. Within a line its steps so far are counted, and `small` says
-- that none of their names is too long. Both measures are what is left of the list. proofs/Front.antt and proofs/Walk.antt have the laws.
use Prim.Native.Nat.{◌-◌}
use lib.ListN.{length}
use Rattle.paths.proofs.Front.{AtLine}
use Rattle.paths.proofs.Walk.{Walking}
use Rattle.paths.proofs.answer.Given as goal

abbrev pub invariant-steps : goal.invariant-steps
invariant-steps l = Walking l.list l.initial.at l.line l.at l.count l.small

abbrev pub decreases-steps : goal.decreases-steps
decreases-steps l = length l.list - l.at

abbrev pub invariant-lines : goal.invariant-lines
invariant-lines l = AtLine l.list l.at l.line

abbrev pub decreases-lines : goal.decreases-lines
decreases-lines l = length l.list - l.at
