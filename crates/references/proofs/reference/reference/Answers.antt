-- `reference` meets its contract: one saying or another, as an equation.
-- proofs/Readings.antt has the laws.
use Rattle.readers.specs.Value.{reference_of}
use Rattle.references.proofs.Readings.{reading}
use Rattle.references.proofs.reference.reference.Goals as goal

pub returns-in-Some : goal.returns-in-Some
unfolding reference_of
returns-in-Some c = search reading

pub returns-in-None : goal.returns-in-None
unfolding reference_of
returns-in-None c = search reading
