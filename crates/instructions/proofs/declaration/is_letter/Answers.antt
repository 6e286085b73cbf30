-- The two ranges of letters, as the code tests them.
-- The law is in Declarations.
use borrow.Author.Rules.{rules}
use Rattle.instructions.proofs.Declarations.{classing}
use Rattle.instructions.proofs.declaration.is_letter.Goals as goal

pub returns : goal.returns
returns c = search (classing, rules)
