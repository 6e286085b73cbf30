-- `judge` meets its contract. The loop's invariant: whole entries reach from the place as far as they do from the front.
-- The measure is what is left of the batch.
use Rattle.bundle.proofs.Judging.{judging}
use Rattle.bundle.proofs.judge.Goals as goal

pub returns-then-batch-from : goal.returns-then-batch-from
returns-then-batch-from c = search judging
