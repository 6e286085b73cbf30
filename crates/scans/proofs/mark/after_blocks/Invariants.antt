-- `after_blocks` meets its contract. The loop's invariant: from `from` up to i no byte is a mark.
-- The measure is what is left of the slice.
use Prim.Native.Nat.{◌-◌}
use lib.ListN.{length}
use Rattle.blocks.specs.Block.{Skips}
use Rattle.readers.specs.Plain.{is_mark}
use Rattle.scans.proofs.mark.after_blocks.Given as goal

abbrev pub invariant-loop-i : goal.invariant-loop-i
invariant-loop-i l = Skips (is_mark l.q) l.s l.from l.i

abbrev pub decreases-loop-i : goal.decreases-loop-i
decreases-loop-i l = length l.s - l.i
