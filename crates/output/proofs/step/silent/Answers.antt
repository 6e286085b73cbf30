-- `silent` meets its contract:
-- open in the output; waiting; the end of a kept entry; inside one.
use Rattle.output.proofs.Outs.{silent_open, silent_waits, silent_last, silent_inner}
use Rattle.output.proofs.step.silent.Goals as goal

pub returns-then-level-reached : goal.returns-then-level-reached
returns-then-level-reached c = silent_open c.if-level-reached.true

pub returns-then-run-eq0 : goal.returns-then-run-eq0
returns-then-run-eq0 c = silent_waits c.if-level-reached.false c.if-run-eq0.true

pub returns-then-level-reached-eq1 : goal.returns-then-level-reached-eq1
returns-then-level-reached-eq1 c = silent_last c.if-run-eq0.false c.if-level-reached-eq1.true

pub returns : goal.returns
returns c = silent_inner c.if-level-reached.false c.if-level-reached-eq1.false
