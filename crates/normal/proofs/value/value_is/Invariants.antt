-- `value_is` meets its contract. The loop's invariant: what is left of the value and of the text are the same exactly where the whole value
-- and the whole text are. The measure is what is left of the document.
use Prim.Native.Nat.{◌-◌}
use lib.ListN.{length}
use Rattle.references.specs.Sign.{where_of}
use Rattle.normal.proofs.Comparing.{Comparing}
use Rattle.normal.proofs.value.value_is.Given as goal

abbrev pub invariant-loop-c : goal.invariant-loop-c
invariant-loop-c l = Comparing (where_of l.place) l.doc l.text l.at l.i l.k l.after

abbrev pub decreases-loop-c : goal.decreases-loop-c
decreases-loop-c l = length l.doc - l.i
