-- `line_at` meets its contract: the steps end where they are said to, and what stands there is the line's end or none.
-- proofs/Lines.antt has the laws.
use Rattle.covers.proofs.Lines.{ending}
use Rattle.covers.proofs.line.line_at.Goals as goal

pub test_end-requires : goal.test_end-requires
test_end-requires c = search ending

pub returns-in-Some : goal.returns-in-Some
returns-in-Some c = search ending

pub returns-in-None : goal.returns-in-None
returns-in-None c = search ending
