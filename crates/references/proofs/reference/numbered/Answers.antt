-- `numbered` meets its contract: one reading after another.
-- proofs/Readings.antt has the laws.
use Rattle.references.proofs.Readings.{reading}
use Rattle.references.proofs.reference.numbered.Goals as goal

pub returns-in_err-i : goal.returns-in_err-i
returns-in_err-i c = rw c.from_residual.ensures (search (reading, c.in_err-i.was))

pub returns : goal.returns
returns c = search (reading, c.in_ok-i.was)
