-- `after` meets its contract: a text of one byte or more that stands at a place ends inside the document.
-- proofs/Readings.antt has the laws.
use Rattle.references.proofs.Readings.{reading}
use Rattle.references.proofs.reference.after.Goals as goal

pub overflow_add-result : goal.overflow_add-result
overflow_add-result c = search reading

pub returns-then-stands : goal.returns-then-stands
returns-then-stands c = search reading

pub returns : goal.returns
returns c = search reading
