-- `char_ref` meets its contract: one saying or another.
-- proofs/Readings.antt has the laws.
use Rattle.readers.specs.Value.{char_ref_of}
use Rattle.references.proofs.Readings.{reading}
use Rattle.references.proofs.reference.char_ref.Goals as goal

pub numbered-requires : goal.numbered-requires
numbered-requires c = search reading

pub numbered-requires-in-None : goal.numbered-requires-in-None
numbered-requires-in-None c = search reading

pub returns-in-Some : goal.returns-in-Some
unfolding char_ref_of
returns-in-Some c = search reading

pub returns-in-None : goal.returns-in-None
unfolding char_ref_of
returns-in-None c = search reading
