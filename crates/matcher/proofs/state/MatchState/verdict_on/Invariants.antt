-- `verdict_on` meets its contract. The loop's invariant: `selected` and `marked` are the hits of the first p paths, joined, among last
-- steps and among those of marked paths.
use Rattle.matcher.proofs.Carrying.{Joining}
use Rattle.matcher.proofs.state.MatchState.verdict_on.Given as goal

abbrev pub invariant-loop-p : goal.invariant-loop-p
invariant-loop-p l =
    Joining l.self.bits l.fit.passes l.fit.stays l.fit.goes l.fit.lasts l.fit.marks l.selected l.marked l.p
