-- `seen` meets its contract. The loop's invariant: the name is one of those kept if it is one of those from k on.
-- proofs/Kept.antt has the laws.
use Rattle.tags.proofs.Kept.{seeing}
use Rattle.tags.proofs.gather.seen.Goals as goal

pub same_name-requires : goal.same_name-requires
same_name-requires c = search seeing

pub returns-then-same_name : goal.returns-then-same_name
returns-then-same_name c = search seeing

pub loop-k-preserved : goal.loop-k-preserved
loop-k-preserved c = search seeing

pub returns : goal.returns
returns c = search seeing
