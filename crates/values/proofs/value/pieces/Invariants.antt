-- `pieces` meets its contract. The loop's invariant: what the pieces leave from i on is what they leave from the start, and a mark stands
-- at i, or i is the end. The measure is what is left of the document.
use Prim.Native.Nat.{◌-◌}
use lib.ListN.{length}
use Rattle.values.proofs.Pieces.{Between}
use Rattle.values.proofs.value.pieces.Given as goal

abbrev pub invariant-loop-i : goal.invariant-loop-i
invariant-loop-i l = Between l.q l.doc l.at l.i

abbrev pub decreases-loop-i : goal.decreases-loop-i
decreases-loop-i l = length l.doc - l.i
