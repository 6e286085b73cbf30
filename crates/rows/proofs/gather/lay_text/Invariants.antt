-- `lay_text` meets its contract. The invariant is `Gathered`: what is gathered up to the place i, and how deep that place is.
-- The measure is what is left of the document.
use Rattle.rows.proofs.Gathering.{Gathered}
use Prim.Native.Nat.{◌-◌}
use lib.ListN.{length}
use Rattle.rows.proofs.gather.lay_text.Given as goal

abbrev pub invariant-loop-depth : goal.invariant-loop-depth
invariant-loop-depth l =
    Gathered l.doc l.at l.quoted l.initial.out l.to l.i l.depth l.place l.special l.out

abbrev pub decreases-loop-depth : goal.decreases-loop-depth
decreases-loop-depth l = length l.doc - l.i
