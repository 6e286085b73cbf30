-- `is_cut` meets its contract: the test is the definition, with what is answered of the three bytes.
use Rattle.blocks.specs.Usual.{is_cut, differ}
use Rattle.blocks.proofs.block.is_cut.Goals as goal

pub returns : goal.returns
unfolding is_cut differ
returns c = rw (c.is_later.ensures, c.is_later-2.ensures, c.is_later-3.ensures)
