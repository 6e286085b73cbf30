-- `judge` meets its contract:
-- too long, another encoding, a bad sequence, or what the scan says.
use Rattle.document.proofs.Judging.{judging}
use Rattle.document.proofs.judge.judge.Goals as goal

pub returns-then-doc-gt-BYTES : goal.returns-then-doc-gt-BYTES
returns-then-doc-gt-BYTES c = search judging

pub returns-then-names_other : goal.returns-then-names_other
returns-then-names_other c = search judging

pub returns-in-Ok : goal.returns-in-Ok
returns-in-Ok c = search judging

pub returns-in-Err : goal.returns-in-Err
returns-in-Err c = search judging
