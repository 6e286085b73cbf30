-- `whole` meets its contract: the first state is on the way, and content stops at the end of the document or at a fault.
-- proofs/Whole.antt has the laws.
use Rattle.descent.proofs.Whole.{wholes}
use Rattle.descent.proofs.tree.whole.Goals as goal

pub content-requires : goal.content-requires
content-requires c = search wholes

pub returns : goal.returns
returns c = search wholes
