-- `judge` meets its contract. The loop's invariant: whole entries reach from the place as far as they do from the front.
-- The measure is what is left of the batch.
use Prim.Native.Nat.{◌-◌}
use lib.ListN.{length}
use Rattle.bundle.proofs.Judging.{Judging}
use Rattle.bundle.proofs.judge.Given as goal

abbrev pub invariant-loop-at : goal.invariant-loop-at
invariant-loop-at l = Judging l.batch l.at

abbrev pub decreases-loop-at : goal.decreases-loop-at
decreases-loop-at l = length l.batch - l.at
