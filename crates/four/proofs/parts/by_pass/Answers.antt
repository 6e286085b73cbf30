-- `by_pass` meets its contract:
-- at fault, no room, laid from the notes, or left to be laid.
use Rattle.four.proofs.Serving.{passing}
use Rattle.four.proofs.parts.by_pass.Goals as goal

pub returns-then-out-length : goal.returns-then-out-length
returns-then-out-length c = search passing

pub returns-then-noted-log : goal.returns-then-noted-log
returns-then-noted-log c = search passing

pub returns-in-Err : goal.returns-in-Err
returns-in-Err c = rw c.fault_of.ensures (search passing)

pub returns-else-noted-log : goal.returns-else-noted-log
returns-else-noted-log c = search passing
