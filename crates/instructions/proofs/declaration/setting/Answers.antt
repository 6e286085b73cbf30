-- White space, the word, Eq, and what stands in quotes, one after another.
-- One law for each return is in Declarations.
use Rattle.instructions.proofs.Declarations.{parting}
use Rattle.instructions.proofs.declaration.setting.Goals as goal

pub returns-in_err-b : goal.returns-in_err-b
returns-in_err-b c = rw c.from_residual-in_err-b.ensures (search (parting, c.in_ok-a.was, c.in_err-b.was))

pub returns-in_err-c : goal.returns-in_err-c
returns-in_err-c c = rw c.from_residual-in_err-c.ensures (search (parting, c.in_ok-a.was, c.in_ok-b.was, c.in_err-c.was))

pub returns : goal.returns
returns c = search (parting, c.in_ok-a.was, c.in_ok-b.was, c.in_ok-c.was)
