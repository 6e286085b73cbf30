-- `selecting` meets its contract. The loop's invariant:
-- the bits so far are those of the paths from p on.
use Rattle.matcher.proofs.Selecting.{Selecting}
use Rattle.matcher.proofs.state.MatchState.selecting.Given as goal

abbrev pub invariant-loop-p : goal.invariant-loop-p
invariant-loop-p l = Selecting l.self.bits l.fit.passes l.fit.stays l.fit.goes l.fit.lasts l.p l.bits
