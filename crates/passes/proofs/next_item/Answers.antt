-- `next_item` meets its contract: the item that `usual` tells, which may stand there, or the item read and placed.
-- proofs/Telling.antt has the laws.
use Rattle.passes.proofs.Telling.{next, told_item, told_placed}
use Rattle.passes.proofs.next_item.Goals as goal

pub place-placed-requires : goal.place-placed-requires
place-placed-requires c = search next

pub returns-clause-item_value : goal.returns-clause-item_value
returns-clause-item_value c = told_item c.usual-told.ensures c.in_default.not-Nothing c.args.first

pub returns-clause-placed_value : goal.returns-clause-placed_value
returns-clause-placed_value c = told_placed c.usual-told.ensures c.in_default.not-Nothing
