-- `entity` meets its contract: a text, with what it says.
-- proofs/Readings.antt has the laws.
use Rattle.references.proofs.Readings.{reading}
use Rattle.references.proofs.reference.entity.Goals as goal

pub returns-in_err-e : goal.returns-in_err-e
returns-in_err-e c = rw c.from_residual.ensures (search (reading, c.in_err-e.was))

pub returns : goal.returns
returns c = search (reading, c.in_ok-e.was)
