-- `fill` meets its contract. The loop's invariant: what is laid so far, and the entries of the documents from the place on, is the result.
-- The measure is what is left of the batch.
use mathlib.Core.Path.{◌≡◌}
use Prim.Native.Nat.{◌-◌}
use lib.ListN.{length}
use Rattle.batch.proofs.Walking.{Filling}
use Rattle.batch.proofs.walk.fill.Given as goal

abbrev pub invariant-loop-at : goal.invariant-loop-at
invariant-loop-at l =
    Filling l.list l.batch l.initial.out l.at l.put l.selected l.out × (length l.log ≡ length l.initial.log)

abbrev pub decreases-loop-at : goal.decreases-loop-at
decreases-loop-at l = length l.batch - l.at
