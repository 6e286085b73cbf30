-- `choughbell_plain` meets its contract: the numbers are the first three of the first engine's answer, since those of the plain engine's
-- answer are, and the buffer is as the plain engine leaves it. There is no loop.
use Rattle.exported.proofs.Plainly.{plain_told}
use Rattle.exported.proofs.engine.choughbell_plain.Goals as goal

pub returns : goal.returns
returns c = let cut = c.cut-a.ensures in
    record {
      value = plain_told _ _ _ c.three_of.ensures cut.value;
      out_after = cut.out_after;
    }
