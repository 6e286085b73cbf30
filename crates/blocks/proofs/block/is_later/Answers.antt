-- `is_later` meets its contract: the test is the definition.
use mathlib.Core.Path.{refl}
use Rattle.blocks.specs.Usual.{is_later}
use Rattle.blocks.proofs.block.is_later.Goals as goal

pub returns : goal.returns
unfolding is_later
returns c = refl
