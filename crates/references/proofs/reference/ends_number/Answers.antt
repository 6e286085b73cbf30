-- `ends_number` meets its contract: another byte than `;`, no digit before it, or a number to be judged.
-- proofs/Numbers.antt has a law for each.
use Rattle.references.proofs.Numbers.{ending}
use Rattle.references.proofs.reference.ends_number.Goals as goal

pub returns-then-any : goal.returns-then-any
returns-then-any c = search ending

pub returns-else-any : goal.returns-else-any
returns-else-any c = search ending

pub returns-else-b-eq59 : goal.returns-else-b-eq59
returns-else-b-eq59 c = search ending
