-- `is` meets its contract: names of two lengths differ, else their bytes are compared, and then the value. proofs/Having.antt has the laws.
use Rattle.attribute.proofs.Having.{being}
use Rattle.attribute.proofs.has.is.Goals as goal

pub returns-then-e-a : goal.returns-then-e-a
returns-then-e-a c = search being

pub returns-then-not-stands : goal.returns-then-not-stands
returns-then-not-stands c = search being

pub returns : goal.returns
returns c = search being
