-- `yes`, or else `no`.
-- One law for each return is in Declarations.
use borrow.Author.Rules.{rules}
use Rattle.instructions.proofs.Declarations.{choices}
use Rattle.instructions.proofs.declaration.yes_or_no.Goals as goal

pub returns-then-stands : goal.returns-then-stands
returns-then-stands c = search (choices, rules)

pub returns-then-stands-2 : goal.returns-then-stands-2
returns-then-stands-2 c = search (choices, rules)

pub returns : goal.returns
returns c = search (choices, rules)
