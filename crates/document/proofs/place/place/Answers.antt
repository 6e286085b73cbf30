-- `place` meets its contract:
-- each kind of item has its own answer.
use Rattle.document.proofs.Placing.{placing}
use Rattle.document.proofs.place.place.Goals as goal

pub returns-in-Start : goal.returns-in-Start
returns-in-Start c = search placing
