-- `value_of` meets its contract: one law for each of its four ways.
-- proofs/Rows.antt has them.
use Rattle.utf8.proofs.Rows.{valuing}
use Rattle.utf8.proofs.value_of.Goals as goal

pub returns-then-a-lt128 : goal.returns-then-a-lt128
returns-then-a-lt128 c = search valuing

pub returns-then-a-lt224 : goal.returns-then-a-lt224
returns-then-a-lt224 c = search valuing

pub returns-then-a-lt240 : goal.returns-then-a-lt240
returns-then-a-lt240 c = search valuing

pub returns : goal.returns
returns c = search valuing
