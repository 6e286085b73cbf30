-- `start` meets its contract: the record of an element that is selected, and none of another.
use mathlib.Core.Path.{refl}
use Rattle.sheet.proofs.Answering.{started_one, started_none}
use Rattle.sheet.proofs.start.Goals as goal

pub returns-then-is_selected : goal.returns-then-is_selected
returns-then-is_selected c =
    started_one c.is_selected.ensures c.if-is_selected.true (c.lay_record-to.ensures.wrote, c.lay_record-to.ensures.upper_bound) refl refl

pub returns : goal.returns
returns c =
    started_none c.is_selected.ensures c.if-is_selected.false refl
