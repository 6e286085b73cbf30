-- `text_end` meets its contract. The loop's invariant: no mark stands from the place up to i, a place inside.
-- The measure is what is left of the document.
use Prim.Native.Nat.{◌-◌}
use lib.ListN.{length}
use Rattle.blocks.specs.Block.{Skips}
use Rattle.readers.specs.Plain.{is_mark}
use Rattle.passes.proofs.text_end.Given as goal

abbrev pub invariant-loop-i : goal.invariant-loop-i
invariant-loop-i l = Skips (is_mark 0x5D) l.doc l.at l.i

abbrev pub decreases-loop-i : goal.decreases-loop-i
decreases-loop-i l = length l.doc - l.i
