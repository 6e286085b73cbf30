-- `1.` and one digit or more: one law for each return is in Declarations.
-- The sum fits, since `1.` stands inside the document.
use Rattle.instructions.proofs.Declarations.{versions}
use Rattle.instructions.proofs.declaration.version.Goals as goal

pub returns-then-not-stands : goal.returns-then-not-stands
returns-then-not-stands c = search versions

pub after_class-e-requires : goal.after_class-e-requires
after_class-e-requires c = search versions

pub returns-then-e-at : goal.returns-then-e-at
returns-then-e-at c = search versions

pub returns : goal.returns
returns c = search versions
