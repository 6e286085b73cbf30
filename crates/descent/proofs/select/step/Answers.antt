-- `step` meets its contract. The invariant: the places up to p are found, and those behind it are as they were; `right` and `above` tell of
-- those that the step before can have. proofs/Places.antt has the laws.
use Rattle.descent.proofs.Places.{trying}
use Rattle.descent.proofs.select.step.Goals as goal

pub loop-p-preserved : goal.loop-p-preserved
loop-p-preserved c = search trying
