-- `plain` meets its contract. proofs/Compare.antt has the laws.
use Rattle.normal.proofs.Compare.{plaining}
use Rattle.normal.proofs.value.plain.Goals as goal

pub returns-then-c-eq9 : goal.returns-then-c-eq9
returns-then-c-eq9 c = search plaining

pub returns-then-c-eq10 : goal.returns-then-c-eq10
returns-then-c-eq10 c = search plaining

pub returns-then-c-eq13 : goal.returns-then-c-eq13
returns-then-c-eq13 c = search plaining

pub returns : goal.returns
returns c = search plaining
