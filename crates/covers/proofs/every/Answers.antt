-- `every` meets its contract. The invariant: the narrow lines read are covered, so what is left is covered just if all are. The measure is
-- what is left of the narrow list. proofs/Going.antt has the laws.
use Rattle.covers.proofs.Going.{going}
use Rattle.covers.proofs.every.Goals as goal

pub loop-at-init : goal.loop-at-init
loop-at-init c = search going

pub some_stands-requires : goal.some_stands-requires
some_stands-requires c = search going

pub returns-then-not-some_stands : goal.returns-then-not-some_stands
returns-then-not-some_stands c = search going

pub loop-at-smaller : goal.loop-at-smaller
loop-at-smaller c = search going

pub loop-at-preserved : goal.loop-at-preserved
loop-at-preserved c = search going

pub returns : goal.returns
returns c = search going
