-- `gather` meets its contract. The loop's invariant: the names so far and those gathered from i on are those gathered from `at` on, and the
-- first 32 are kept by their places. The measure is what is left of the document.
use Rattle.tags.proofs.Gathers.{gathering}
use Rattle.tags.proofs.gather.gather.Goals as goal

pub loop-name-smaller : goal.loop-name-smaller
loop-name-smaller c = search gathering

pub loop-name-preserved : goal.loop-name-preserved
loop-name-preserved c = search gathering

pub returns-in-None : goal.returns-in-None
returns-in-None c = search gathering
