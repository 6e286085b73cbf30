-- `open_chain` meets its contract. The invariant: the start tags of the levels after lo up to k are laid.
-- proofs/Inking.antt has the law of a step.
use Rattle.descent.proofs.Inking.{chained_on}
use Rattle.descent.proofs.ink.open_chain.Goals as goal

pub loop-k-preserved : goal.loop-k-preserved
loop-k-preserved c = search chained_on
