-- `is_outside` meets its contract: the test is the definition.
use mathlib.Core.Path.{refl}
use Rattle.blocks.specs.Usual.{is_outside}
use Rattle.blocks.proofs.block.is_outside.Goals as goal

pub returns : goal.returns
unfolding is_outside
returns c = refl
