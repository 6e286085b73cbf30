-- `verdict_of` meets its contract. The loop's invariant: no marked path is met among the first p, and `left` are the bits of the others.
-- They are the measure. proofs/Picking.antt has the laws.
use Rattle.matcher.proofs.Picking.{Picking}
use Rattle.matcher.proofs.fit.Fit.verdict_of.Given as goal

abbrev pub invariant-loop-left : goal.invariant-loop-left
invariant-loop-left l = Picking l.marks l.passing l.left l.p

abbrev pub decreases-loop-left : goal.decreases-loop-left
decreases-loop-left l = l.left
