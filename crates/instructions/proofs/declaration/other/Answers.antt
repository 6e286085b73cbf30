-- An EncName, but not `UTF-8`.
-- One law for each return is in Declarations.
use Rattle.instructions.proofs.Declarations.{othering}
use Rattle.instructions.proofs.declaration.other.Goals as goal

pub is_utf8-requires : goal.is_utf8-requires
is_utf8-requires c = search (othering, c.in_ok-e.was)

pub returns-in_err-e : goal.returns-in_err-e
returns-in_err-e c = rw c.from_residual.ensures (search (othering, c.in_err-e.was))

pub returns-then-is_utf8 : goal.returns-then-is_utf8
returns-then-is_utf8 c = search (othering, c.in_ok-e.was)

pub returns : goal.returns
returns c = search (othering, c.in_ok-e.was)
