-- `is_mark` meets its contract: the three comparisons are those of the definition `is_mark`, grouped otherwise.
-- proofs/Marks.antt has the law.
use Rattle.scans.proofs.Marks.{marking}
use Rattle.scans.proofs.mark.is_mark.Goals as goal

pub returns : goal.returns
returns c = search marking
