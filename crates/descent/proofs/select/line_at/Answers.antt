-- `line_at` meets its contract. The invariant: `can` are the places of the steps read so far. The measure is what is left of the list.
-- proofs/Lines.antt has the laws.
use Rattle.descent.proofs.Lines.{walking}
use Rattle.descent.proofs.select.line_at.Goals as goal

pub loop-found-init : goal.loop-found-init
loop-found-init c = search walking

pub step-requires : goal.step-requires
step-requires c = search walking

pub loop-found-smaller : goal.loop-found-smaller
loop-found-smaller c = search walking

pub loop-found-preserved : goal.loop-found-preserved
loop-found-preserved c = search walking

pub returns-in-None : goal.returns-in-None
returns-in-None c = search walking
