-- `selecting` meets its contract. The loop's invariant:
-- the bits so far are those of the paths from p on.
use Rattle.matcher.proofs.Selecting.{selecting}
use Rattle.matcher.proofs.state.MatchState.selecting.Goals as goal

pub returns : goal.returns
returns c = search selecting
