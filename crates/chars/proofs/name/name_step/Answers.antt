-- `name_step` meets its contract: one law for each of its five ways.
-- proofs/Names.antt has them.
use native.Mathlib.Omega.{arith}
use Rattle.chars.proofs.Names.{stepping}
use Rattle.chars.proofs.name.name_step.Goals as goal

pub overflow_cast-b : goal.overflow_cast-b
overflow_cast-b c = omega (arith, c.shared_slice_known-2-1.given c.args.at)

pub returns-then-goes_on : goal.returns-then-goes_on
returns-then-goes_on c = search stepping

pub returns-then-b-lt128 : goal.returns-then-b-lt128
returns-then-b-lt128 c = search stepping

pub returns-then-goes_on-2 : goal.returns-then-goes_on-2
returns-then-goes_on-2 c = search stepping

pub returns-else-goes_on-2 : goal.returns-else-goes_on-2
returns-else-goes_on-2 c = search stepping

pub returns-in-None : goal.returns-in-None
returns-in-None c = search stepping
