-- `mark_tail` meets its contract.
-- The loop's invariant: no mark stands from `from` up to i.
use Rattle.blocks.specs.Block.{Skips}
use Rattle.readers.specs.Plain.{is_mark}
use Rattle.scans.proofs.mark.mark_tail.Given as goal

abbrev pub invariant-loop-i : goal.invariant-loop-i
invariant-loop-i l = Skips (is_mark l.q) l.s l.from l.i
