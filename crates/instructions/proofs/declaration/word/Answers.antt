-- The word of a part, or none.
-- Laws by the part are in Declarations.
use borrow.Author.Rules.{rules}
use Rattle.instructions.proofs.Declarations.{wording}
use Rattle.instructions.proofs.declaration.word.Goals as goal

pub returns-then-stands : goal.returns-then-stands
returns-then-stands c = search (wording, rules)

pub returns-then-stands-2 : goal.returns-then-stands-2
returns-then-stands-2 c = search (wording, rules)

pub returns-then-stands-3 : goal.returns-then-stands-3
returns-then-stands-3 c = search (wording, rules)

pub returns-then-stands-4 : goal.returns-then-stands-4
returns-then-stands-4 c = search (wording, rules)

pub returns-else-stands : goal.returns-else-stands
returns-else-stands c = search (wording, rules)

pub returns-else-stands-2 : goal.returns-else-stands-2
returns-else-stands-2 c = search (wording, rules)

pub returns-else-stands-3 : goal.returns-else-stands-3
returns-else-stands-3 c = search (wording, rules)

pub returns-else-stands-4 : goal.returns-else-stands-4
returns-else-stands-4 c = search (wording, rules)
