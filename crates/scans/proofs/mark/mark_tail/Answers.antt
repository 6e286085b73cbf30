-- `mark_tail` meets its contract.
-- The loop's invariant: no mark stands from `from` up to i.
use Rattle.scans.proofs.Marks.{marking}
use Rattle.scans.proofs.mark.mark_tail.Goals as goal

pub returns-then-is_mark : goal.returns-then-is_mark
returns-then-is_mark c = search marking

pub loop-i-preserved : goal.loop-i-preserved
loop-i-preserved c = search marking

pub returns : goal.returns
returns c = search marking
