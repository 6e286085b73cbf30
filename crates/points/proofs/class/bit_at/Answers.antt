-- `bit_at` meets its contract:
-- what is computed is the bit, and both places are inside the table.
use mathlib.Core.Path.{refl}
use Rattle.points.specs.Class.{bit_at}
use Rattle.points.proofs.class.bit_at.Goals as goal

pub returns : goal.returns
unfolding bit_at
returns c = refl
