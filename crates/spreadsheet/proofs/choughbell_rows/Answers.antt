-- `choughbell_rows` meets its contract: the numbers are those of the library's answer, and the buffer is as the library leaves it.
-- There is no loop.
use mathlib.Core.Path.{ap, ◌∙◌}
use Rattle.spreadsheet.specs.Numbers.{rows_numbers}
use Rattle.spreadsheet.proofs.choughbell_rows.Goals as goal

pub returns : goal.returns
returns c = let rows = c.rows-a.ensures in
    record {
      value = c.rows_numbers.ensures ∙ ap rows_numbers rows.value;
      out_after = rows.out_after;
    }
