-- `is_never` meets its contract: the bytes below 0x20 that the test leaves out are Chars.
-- proofs/Owed.antt has the law.
use Rattle.blocks.proofs.Owed.{never_test}
use Rattle.blocks.proofs.block.is_never.Goals as goal

pub returns : goal.returns
returns c = never_test c.args.a
