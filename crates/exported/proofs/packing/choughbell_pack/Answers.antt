-- `choughbell_pack` meets its contract: the numbers are those of the library's answer, and the buffer is as the library leaves it.
-- There is no loop.
use mathlib.Core.Path.{ap, ◌∙◌}
use Rattle.exported.specs.Packing.{packing_of}
use Rattle.exported.proofs.packing.choughbell_pack.Goals as goal

pub returns : goal.returns
returns c = let done = c.pack-a.ensures in
    record {
      value = c.packing_numbers.ensures ∙ ap packing_of done.value;
      out_after = done.out_after;
    }
