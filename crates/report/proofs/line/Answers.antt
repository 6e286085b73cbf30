-- `line` meets its contract: a word, two numbers and LF, one after another.
-- proofs/Telling.antt has the laws.
use Rattle.report.proofs.Telling.{wrote_line, line_short}
use Rattle.report.proofs.line.Goals as goal

pub returns : goal.returns
returns c = let word = c.copy-named.ensures in
    let a = c.spaced-first.ensures in
    let b = c.spaced-second.ensures in
    let last = c.put.ensures in
    record {
      wrote = wrote_line word a.wrote b.wrote last;
      upper_bound = line_short word a.wrote b.wrote last c.requires a.upper_bound b.upper_bound;
    }
