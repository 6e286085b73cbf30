-- `name_end` meets its contract. The loop's invariant: a name starts at the place, and from there up to i there are name characters.
-- The measure is what is left of the document.
use Prim.Native.Nat.{◌-◌}
use lib.ListN.{length}
use Rattle.tags.proofs.Usuals.{Naming}
use Rattle.tags.proofs.usual.name_end.Given as goal

abbrev pub invariant-loop-i : goal.invariant-loop-i
invariant-loop-i l = Naming l.doc l.at l.i

abbrev pub decreases-loop-i : goal.decreases-loop-i
decreases-loop-i l = length l.doc - l.i
