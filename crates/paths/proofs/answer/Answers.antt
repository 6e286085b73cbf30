-- `answer` meets its contract. At a line's front the lines before are sound. Within a line its steps so far are counted, and `small` says
-- that none of their names is too long. Both measures are what is left of the list. proofs/Front.antt and proofs/Walk.antt have the laws.
use Rattle.paths.proofs.Walk.{walk}
use Rattle.paths.proofs.answer.Goals as goal

pub steps-smaller : goal.steps-smaller
steps-smaller c = search walk

pub steps-preserved : goal.steps-preserved
steps-preserved c = search walk

pub lines-smaller : goal.lines-smaller
lines-smaller c = search walk

pub lines-preserved : goal.lines-preserved
lines-preserved c = search walk

pub returns-in-None-end_at : goal.returns-in-None-end_at
returns-in-None-end_at c = search walk

pub returns-then-not-count-small : goal.returns-then-not-count-small
returns-then-not-count-small c = search walk
