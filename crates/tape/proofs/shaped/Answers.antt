-- `shaped` meets its contract:
-- one tag for each kind.
use Rattle.tape.proofs.Entries.{entries}
use Rattle.tape.proofs.shaped.Goals as goal

pub returns-then-kind-eq0 : goal.returns-then-kind-eq0
returns-then-kind-eq0 c = search entries

pub returns-then-kind-eq1 : goal.returns-then-kind-eq1
returns-then-kind-eq1 c = search entries

pub returns : goal.returns
returns c = search entries
