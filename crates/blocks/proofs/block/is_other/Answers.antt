-- `is_other` meets its contract: the test of a byte, by the borders 0x20 and 0x80 and three bytes below them, is that of `is_other`.
-- proofs/Plain.antt has the law.
use Rattle.blocks.proofs.Plain.{plain}
use Rattle.blocks.proofs.block.is_other.Goals as goal

pub returns : goal.returns
returns c = search plain
