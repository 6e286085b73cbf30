-- `start_of` meets its contract:
-- the three bytes stand at the front, or they do not.
use Rattle.document.proofs.Judging.{beginning}
use Rattle.document.proofs.judge.start_of.Goals as goal

pub returns-then-stands : goal.returns-then-stands
returns-then-stands c = search beginning

pub returns : goal.returns
returns c = search beginning
