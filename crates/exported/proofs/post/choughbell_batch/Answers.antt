-- `choughbell_batch` meets its contract: the numbers are those of the library's answer, and the buffer is as the library leaves it.
-- There is no loop.
use mathlib.Core.Path.{ap, ◌∙◌}
use Rattle.exported.specs.Batch.{batch_numbers_of}
use Rattle.exported.proofs.post.choughbell_batch.Goals as goal

pub returns : goal.returns
returns c = let said = c.cut_all-a.ensures in
    record {
      value = c.batch_numbers_of.ensures ∙ ap batch_numbers_of said.value;
      out_after = said.out_after;
    }
