-- `put` meets its contract. proofs/Compare.antt has the laws.
use Rattle.normal.proofs.Compare.{putting}
use Rattle.normal.proofs.value.put.Goals as goal

pub returns-in_err-x : goal.returns-in_err-x
returns-in_err-x c = rw c.from_residual.ensures (search (putting, c.in_err-x.was))

pub returns-then-x-c : goal.returns-then-x-c
returns-then-x-c c = search (putting, c.in_ok-x.was)

pub returns : goal.returns
returns c = search (putting, c.in_ok-x.was)
