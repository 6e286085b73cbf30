-- `goes_on` meets its contract: below U+0300 by the bit, from there on by the ranges of [4] and of what [4a] adds.
-- proofs/Classes.antt has the laws.
use borrow.Author.Rules.{rules}
use Rattle.xml.specs.Productions.{is_name_start, is_name_more}
use Rattle.points.proofs.Classes.{more_bit, more_start, more_other}
use Rattle.points.proofs.class.Classes.goes_on.Goals as goal

pub returns-then-k-lt-CLASSED : goal.returns-then-k-lt-CLASSED
returns-then-k-lt-CLASSED c = search (more_bit, rules)

pub returns-then-in_ranges : goal.returns-then-in_ranges
unfolding is_name_start
returns-then-in_ranges c = more_start _ c.in_ranges.ensures c.if-in_ranges.true

pub returns : goal.returns
unfolding is_name_start is_name_more
returns c =
    more_other _ c.in_ranges.ensures c.if-in_ranges.false c.in_ranges-2.ensures
