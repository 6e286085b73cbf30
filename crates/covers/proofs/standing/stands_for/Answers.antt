-- `stands_for` meets its contract, one law for each way through.
-- proofs/Stood.antt has the laws.
use Rattle.covers.proofs.Stood.{ways}
use Rattle.covers.proofs.standing.stands_for.Goals as goal

pub returns-then-a-b : goal.returns-then-a-b
returns-then-a-b c = search ways

pub returns-then-not-a-b : goal.returns-then-not-a-b
returns-then-not-a-b c = search ways

pub returns-then-not-sent : goal.returns-then-not-sent
returns-then-not-sent c = search ways

pub returns-then-b_steps-b_end : goal.returns-then-b_steps-b_end
returns-then-b_steps-b_end c = search ways

pub returns : goal.returns
returns c = search ways
