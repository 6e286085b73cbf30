-- `entity_ref` meets its contract: the first of five sayings.
-- proofs/Readings.antt has the laws.
use Rattle.readers.specs.Value.{entity_ref_of}
use Rattle.references.proofs.Readings.{reading}
use Rattle.references.proofs.reference.entity_ref.Goals as goal

pub returns-in-Some : goal.returns-in-Some
unfolding entity_ref_of
returns-in-Some c = search reading

pub returns-in-Some-entity : goal.returns-in-Some-entity
unfolding entity_ref_of
returns-in-Some-entity c = search reading

pub returns-in-Some-entity-2 : goal.returns-in-Some-entity-2
unfolding entity_ref_of
returns-in-Some-entity-2 c = search reading

pub returns-in-Some-entity-3 : goal.returns-in-Some-entity-3
unfolding entity_ref_of
returns-in-Some-entity-3 c = search reading

pub returns : goal.returns
unfolding entity_ref_of
returns c = search reading
