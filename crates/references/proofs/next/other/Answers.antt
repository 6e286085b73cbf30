-- `other` meets its contract: by the three characters that it leaves out. proofs/Signs.antt has the laws.
use Rattle.references.proofs.Signs.{placing}
use Rattle.references.proofs.next.other.Goals as goal

pub returns-then-c-eq60 : goal.returns-then-c-eq60
returns-then-c-eq60 c = search placing

pub returns-then-c-eq38 : goal.returns-then-c-eq38
returns-then-c-eq38 c = search placing

pub returns-then-c-q : goal.returns-then-c-q
returns-then-c-q c = search placing

pub returns : goal.returns
returns c = search placing
