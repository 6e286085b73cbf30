-- `begin_on` meets its contract:
-- the second number of the entry.
use mathlib.Core.Path.{refl}
use Rattle.tape.specs.Tape.{begin_at}
use Rattle.tape.proofs.begin_on.Goals as goal

pub returns : goal.returns
unfolding begin_at
returns c = refl
