-- `value` meets its contract: one reading or another, as an equation.
-- proofs/Pieces.antt has the laws.
use Rattle.readers.specs.Value.{value_of}
use Rattle.values.proofs.Pieces.{reading}
use Rattle.values.proofs.value.value.Goals as goal

pub returns-in-Some : goal.returns-in-Some
unfolding value_of
returns-in-Some c = search reading

pub returns-in-None : goal.returns-in-None
unfolding value_of
returns-in-None c = search reading
