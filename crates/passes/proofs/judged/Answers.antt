-- `judged` meets its contract: one law for each way out. proofs/Judging.antt has them.
use Rattle.passes.proofs.Judging.{judging}
use Rattle.passes.proofs.judged.Goals as goal

pub returns : goal.returns
returns c = search judging
