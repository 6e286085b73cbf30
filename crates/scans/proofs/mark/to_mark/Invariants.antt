-- `to_mark` meets its contract. The loop's invariant: no mark stands from `from` up to i, a place inside.
-- The measure is what is left of the slice; each turn passes 16 bytes at least.
use Prim.Native.Nat.{◌-◌}
use lib.ListN.{length}
use Rattle.blocks.specs.Block.{Skips}
use Rattle.readers.specs.Plain.{is_mark}
use Rattle.scans.proofs.mark.to_mark.Given as goal

abbrev pub invariant-loop-i : goal.invariant-loop-i
invariant-loop-i l = Skips (is_mark l.q) l.s l.from l.i

abbrev pub decreases-loop-i : goal.decreases-loop-i
decreases-loop-i l = length l.s - l.i
