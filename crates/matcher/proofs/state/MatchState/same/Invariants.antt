-- `same` meets its contract. The loop's invariant: the bits in which the first p numbers differ.
use Rattle.matcher.proofs.Alike.{Alike}
use Rattle.matcher.proofs.state.MatchState.same.Given as goal

abbrev pub invariant-loop-p : goal.invariant-loop-p
invariant-loop-p l = Alike l.self.bits l.other.bits l.unlike l.p
