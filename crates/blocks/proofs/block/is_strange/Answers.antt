-- `is_strange` meets its contract: the test is the definition, with the answers of the two tests that it asks.
use Rattle.blocks.specs.Usual.{is_strange, differ}
use Rattle.blocks.proofs.block.is_strange.Goals as goal

pub returns : goal.returns
unfolding is_strange differ
returns c = rw (c.is_never.ensures, c.is_later.ensures)
