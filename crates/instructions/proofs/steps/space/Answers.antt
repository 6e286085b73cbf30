-- `space` meets its contract:
-- white space that ends where it begins is none.
use borrow.Author.Rules.{rules}
use Rattle.instructions.proofs.Over.{spacing}
use Rattle.instructions.proofs.steps.space.Goals as goal

pub returns-then-e-at : goal.returns-then-e-at
returns-then-e-at c = search (spacing, rules)

pub returns : goal.returns
returns c = search (spacing, rules)
