-- `filled` meets its contract:
-- the result is laid, and its numbers are the answer's.
use Rattle.batch.proofs.Answering.{filled_says}
use Rattle.batch.proofs.filled.Goals as goal

pub returns : goal.returns
returns c =
    let all = filled_says _ _ _ c.requires.1 c.requires.2 c.fill-part.ensures.value c.fill-part.ensures.out_after in
    record {
      value = all.0;
      out_after = all.1;
    }
