-- The declaration: what stands before the encoding, the encoding or not, and what stands behind it.
-- One law for each return is in Declarations.
use Rattle.instructions.proofs.Declarations.{declaring}
use Rattle.instructions.proofs.declaration.declaration.Goals as goal

pub returns-in_err-v : goal.returns-in_err-v
returns-in_err-v c = rw c.from_residual.ensures (search (declaring, c.in_err-v.was))

pub returns : goal.returns
returns c = search (declaring, c.in_ok-v.was)
