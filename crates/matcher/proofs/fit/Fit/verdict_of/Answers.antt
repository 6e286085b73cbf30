-- `verdict_of` meets its contract. The loop's invariant: no marked path is met among the first p, and `left` are the bits of the others.
-- They are the measure. proofs/Picking.antt has the laws.
use borrow.Author.Rules.{rules}
use Rattle.matcher.proofs.Picking.{picking}
use Rattle.matcher.proofs.fit.Fit.verdict_of.Goals as goal

pub returns-then-passing-eq0 : goal.returns-then-passing-eq0
returns-then-passing-eq0 c = search (picking, rules)

pub loop-left-preserved-then-set-eq0 : goal.loop-left-preserved-then-set-eq0
loop-left-preserved-then-set-eq0 c = search (picking, rules)

pub returns-then-mark-ne0 : goal.returns-then-mark-ne0
returns-then-mark-ne0 c = search (picking, rules)

pub loop-left-preserved : goal.loop-left-preserved
loop-left-preserved c = search (picking, rules)

pub returns : goal.returns
returns c = search (picking, rules)
