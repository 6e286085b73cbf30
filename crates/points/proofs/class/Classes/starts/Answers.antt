-- `starts` meets its contract: below U+0300 by the bit, from there on by the ranges of [4], which antt sees by computing.
-- proofs/Classes.antt has the law of the bit.
use borrow.Author.Rules.{rules}
use Rattle.xml.specs.Productions.{is_name_start}
use Rattle.points.proofs.Classes.{start_bit}
use Rattle.points.proofs.class.Classes.starts.Goals as goal

pub returns-then-k-lt-CLASSED : goal.returns-then-k-lt-CLASSED
returns-then-k-lt-CLASSED c = search (start_bit, rules)

pub returns : goal.returns
unfolding is_name_start
returns c = c.in_ranges.ensures
