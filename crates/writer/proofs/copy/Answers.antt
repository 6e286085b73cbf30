-- `copy` meets its contract.
-- The invariant: of the bytes that there is room for, the first i are laid.
use Rattle.writer.proofs.Copying.{copying}
use Rattle.writer.proofs.copy.Goals as goal

pub loop-i-preserved : goal.loop-i-preserved
loop-i-preserved c = search copying

pub returns : goal.returns
returns c = search copying
