-- `usual_tag` meets its contract. The loop's invariant: a name of the tag is told, the attributes so far are gathered, and no name stands
-- twice among them. The measure is what is left of the document.
use Prim.Native.Nat.{◌-◌}
use lib.ListN.{length}
use Rattle.tags.proofs.Usuals.{Walking}
use Rattle.tags.proofs.usual.usual_tag.Given as goal

abbrev pub invariant-loop-starts : goal.invariant-loop-starts
invariant-loop-starts l = Walking l.doc l.at l.e l.name l.i l.count l.starts l.lens

abbrev pub decreases-loop-starts : goal.decreases-loop-starts
decreases-loop-starts l = length l.doc - l.i
