-- `ends` meets its contract:
-- what is laid is noted.
use Rattle.output.proofs.Inking.{inking}
use Rattle.output.proofs.ink.ends.Goals as goal

pub returns : goal.returns
returns c = search inking
