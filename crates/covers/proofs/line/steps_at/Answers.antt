-- `steps_at` meets its contract. The invariant: what is known of the steps read, with those left, is what holds of all. The measure is what
-- is left of the list. proofs/Lines.antt has the laws.
use Rattle.covers.proofs.Lines.{walking}
use Rattle.covers.proofs.line.steps_at.Goals as goal

pub loop-step-smaller : goal.loop-step-smaller
loop-step-smaller c = search walking

pub loop-step-preserved : goal.loop-step-preserved
loop-step-preserved c = search walking

pub returns-in-None : goal.returns-in-None
returns-in-None c = search walking
