-- `tests_on` meets its contract. The loop's invariant:
-- the tests of the first p paths are summed.
use Rattle.matcher.proofs.Carrying.{Summing}
use Rattle.matcher.proofs.state.MatchState.tests_on.Given as goal

abbrev pub invariant-loop-p : goal.invariant-loop-p
invariant-loop-p l = Summing l.self.bits l.fit.passes l.fit.stays l.fit.goes l.tests l.p
