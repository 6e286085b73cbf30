-- `readable_end` meets its contract: all of the document is characters,
-- or what stands before the first bad sequence is.
use borrow.Author.Rules.{rules}
use Rattle.mend.proofs.Asking.{asking}
use Rattle.mend.proofs.readable_end.Goals as goal

pub returns-in-Ok : goal.returns-in-Ok
returns-in-Ok c = search (asking, rules)

pub returns-in-Err : goal.returns-in-Err
returns-in-Err c = search asking
