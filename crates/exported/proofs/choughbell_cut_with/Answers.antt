-- `choughbell_cut_with` meets its contract: the numbers are those of the library's answer, and the buffer is as the library leaves it.
-- There is no loop.
use mathlib.Core.Path.{ap, ◌∙◌}
use Rattle.exported.specs.Numbers.{numbers_of}
use Rattle.exported.proofs.choughbell_cut_with.Goals as goal

pub returns : goal.returns
returns c = let cut = c.cut_with-a.ensures in
    record {
      value = c.numbers_of.ensures ∙ ap numbers_of cut.value;
      out_after = cut.out_after;
    }
