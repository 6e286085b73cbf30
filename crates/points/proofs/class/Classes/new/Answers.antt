-- `Classes::new` meets its contract. This is the one computed test over the whole table: antt computes both bits of each of the 768 code
-- points from the ranges of [4] and [4a], and compares the bytes that they make with those of the constant.
use mathlib.Core.Path.{refl}
use Rattle.xml.specs.Productions.{is_name_start, is_name_more, is_name}
use Rattle.points.specs.Class.{class_table}
use Rattle.points.proofs.class.Classes.new.Goals as goal

pub invariant_of-result : goal.invariant_of-result
unfolding class_table is_name_start is_name is_name_more
invariant_of-result c = refl

pub returns : goal.returns
returns c = invariant_of-result c
