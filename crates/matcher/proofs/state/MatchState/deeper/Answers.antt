-- `deeper` meets its contract. The loop's invariant:
-- the bits of the first p paths are carried.
use Rattle.matcher.proofs.Carrying.{carrying}
use Rattle.matcher.proofs.state.MatchState.deeper.Goals as goal

pub loop-p-preserved : goal.loop-p-preserved
loop-p-preserved c = search carrying

pub returns : goal.returns
returns c = search carrying
