-- `is_odd` meets its contract: the test is the definition, with the answers of the three tests that it asks.
use Rattle.blocks.specs.Usual.{is_odd, differ}
use Rattle.blocks.proofs.block.is_odd.Goals as goal

pub returns : goal.returns
unfolding is_odd differ
returns c = rw (c.is_never.ensures, c.is_outside.ensures, c.is_later.ensures)
