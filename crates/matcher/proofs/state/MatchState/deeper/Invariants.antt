-- `deeper` meets its contract. The loop's invariant:
-- the bits of the first p paths are carried.
use Rattle.matcher.proofs.Carrying.{Carried}
use Rattle.matcher.proofs.state.MatchState.deeper.Given as goal

abbrev pub invariant-loop-p : goal.invariant-loop-p
invariant-loop-p l = Carried l.self.bits l.fit.passes l.fit.stays l.fit.goes l.fit.far l.bits l.p
