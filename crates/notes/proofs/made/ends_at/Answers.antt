-- `ends_at` meets its contract:
-- no note; too many; another kind; bytes that end somewhere.
use Rattle.notes.proofs.Making.{ending}
use Rattle.notes.proofs.made.ends_at.Goals as goal

pub returns-then-noted-eq0 : goal.returns-then-noted-eq0
returns-then-noted-eq0 c = search ending

pub returns-then-noted-log : goal.returns-then-noted-log
returns-then-noted-log c = search ending

pub returns-then-last-eq0 : goal.returns-then-last-eq0
returns-then-last-eq0 c = search ending

pub returns : goal.returns
returns c = search ending
