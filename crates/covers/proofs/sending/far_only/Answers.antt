-- `far_only` meets its contract. The invariant: the first p entries are masked. The measure is what is left.
-- proofs/Sent.antt has the laws.
use Rattle.covers.proofs.Sent.{masking}
use Rattle.covers.proofs.sending.far_only.Goals as goal

pub loop-p-preserved : goal.loop-p-preserved
loop-p-preserved c = search masking

pub returns : goal.returns
returns c = search masking
