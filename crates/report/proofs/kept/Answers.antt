-- `kept` meets its contract: the line, the cut and LF, one after another.
-- proofs/Telling.antt has the laws.
use Rattle.report.proofs.Telling.{keeping}
use Rattle.report.proofs.kept.Goals as goal

pub returns-clause-wrote : goal.returns-clause-wrote
returns-clause-wrote c = search keeping
