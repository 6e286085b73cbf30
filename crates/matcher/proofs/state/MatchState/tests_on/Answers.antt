-- `tests_on` meets its contract. The loop's invariant:
-- the tests of the first p paths are summed.
use native.Mathlib.Omega.{arith}
use lib.Count.{ones-le}
use Rattle.matcher.proofs.Carrying.{summing}
use Rattle.matcher.proofs.state.MatchState.tests_on.Goals as goal

pub overflow_cast-tests : goal.overflow_cast-tests
overflow_cast-tests c = let z = ones-le 16 c.tried-t.result (omega arith) in omega arith

pub overflow_add-tests : goal.overflow_add-tests
overflow_add-tests c = let z = ones-le 16 c.tried-t.result (omega arith) in omega arith

pub loop-p-preserved : goal.loop-p-preserved
loop-p-preserved c = search summing

pub returns : goal.returns
returns c = rw c.from.ensures (search summing)
