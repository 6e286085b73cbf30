-- A letter, and what goes on with it.
-- One law for each return is in Declarations.
use Rattle.instructions.proofs.Declarations.{encodings}
use Rattle.instructions.proofs.declaration.encoding.Goals as goal

pub returns-then-at-doc : goal.returns-then-at-doc
returns-then-at-doc c = search encodings

pub returns-then-not-is_letter : goal.returns-then-not-is_letter
returns-then-not-is_letter c = search encodings

pub returns : goal.returns
returns c = search encodings
