-- `spaced` meets its contract: a space, and then a number of at most 20 digits.
-- proofs/Telling.antt has the laws.
use Rattle.report.proofs.Telling.{spacing}
use Rattle.report.proofs.spaced.Goals as goal

pub returns-clause-upper_bound : goal.returns-clause-upper_bound
returns-clause-upper_bound c = search spacing
