-- `start` meets its contract:
-- in a kept entry; marked; selected; the root; waiting.
use Rattle.output.proofs.Outs.{starting}
use Rattle.output.proofs.step.start.Goals as goal

pub returns-then-run-ne0 : goal.returns-then-run-ne0
returns-then-run-ne0 c = search starting

pub overflow_add-result-in-Selected : goal.overflow_add-result-in-Selected
overflow_add-result-in-Selected c =
    let p = c.requires in
    search (starting, p)

pub overflow_add-result-in-Selected-2 : goal.overflow_add-result-in-Selected-2
overflow_add-result-in-Selected-2 c =
    let p = c.requires in
    search (starting, p)

pub returns-then-l-eq0 : goal.returns-then-l-eq0
returns-then-l-eq0 c = search starting

pub returns-in-Marked : goal.returns-in-Marked
returns-in-Marked c = search starting

pub returns-in-Selected : goal.returns-in-Selected
returns-in-Selected c =
    let p = c.requires in
    search (starting, p)

pub returns-else-l-eq0 : goal.returns-else-l-eq0
returns-else-l-eq0 c = search starting
