-- `choughbell_mend` meets its contract: the numbers are those of the library's answer, and the buffer is as the library leaves it.
-- There is no loop.
use mathlib.Core.Path.{ap, ◌∙◌}
use Rattle.exported.specs.Mending.{mended_numbers}
use Rattle.exported.proofs.mending.choughbell_mend.Goals as goal

pub returns : goal.returns
returns c = let mend = c.mend-a.ensures in
    record {
      value = c.numbers.ensures ∙ ap mended_numbers mend.value;
      out_after = mend.out_after;
    }
