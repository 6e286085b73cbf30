-- `measure` meets its contract. The loop's invariant: what is needed so far, and what the documents from the place on add, is the length
-- of the result. The measure is what is left of the batch.
use mathlib.Core.Path.{◌≡◌}
use Prim.Native.Nat.{◌-◌}
use lib.ListN.{length}
use Rattle.batch.proofs.Walking.{Measuring}
use Rattle.batch.proofs.walk.measure.Given as goal

abbrev pub invariant-loop-at : goal.invariant-loop-at
invariant-loop-at l =
    Measuring l.list l.batch l.at l.needed × (length l.log ≡ length l.initial.log)

abbrev pub decreases-loop-at : goal.decreases-loop-at
decreases-loop-at l = length l.batch - l.at
