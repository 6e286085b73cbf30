-- `said_of` meets its contract. The invariant: what the lines before tell, with those from here on, is what all tell. The measure is what
-- is left of the list. proofs/Lines.antt has the laws.
use Rattle.descent.proofs.Lines.{saying}
use Rattle.descent.proofs.select.said_of.Goals as goal

pub loop-at-init : goal.loop-at-init
loop-at-init c = search saying

pub passes_test-tested-requires : goal.passes_test-tested-requires
passes_test-tested-requires c = search saying

pub loop-at-smaller : goal.loop-at-smaller
loop-at-smaller c = search saying

pub loop-at-preserved : goal.loop-at-preserved
loop-at-preserved c = search saying

pub returns-in-None : goal.returns-in-None
returns-in-None c = search saying

pub returns : goal.returns
returns c = search saying
