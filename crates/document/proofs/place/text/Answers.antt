-- `text` meets its contract:
-- inside the root any text may stand, and outside it white space.
use Rattle.document.proofs.Placing.{texts}
use Rattle.document.proofs.place.text.Goals as goal

pub returns : goal.returns
returns c = search texts
