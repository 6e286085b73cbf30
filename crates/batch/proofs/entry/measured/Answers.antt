-- `measured` meets its contract:
-- whatever the room, the answer tells how long the entry is.
use Rattle.batch.proofs.Entering.{measured_is}
use Rattle.batch.proofs.entry.measured.Goals as goal

pub returns : goal.returns
returns c = measured_is _ _ _ c.cut_by_with.ensures.value c.told-part.ensures
