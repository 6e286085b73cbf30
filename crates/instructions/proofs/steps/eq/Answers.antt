-- `eq` meets its contract:
-- white space, the byte, and white space again.
use borrow.Author.Rules.{rules}
use Rattle.instructions.proofs.Over.{equals}
use Rattle.instructions.proofs.steps.eq.Goals as goal

pub returns-in_err-i : goal.returns-in_err-i
returns-in_err-i c = rw c.from_residual.ensures (search (equals, rules, c.in_err-i.was))

pub returns : goal.returns
returns c = search (equals, rules, c.in_ok-i.was)
