-- `section` meets its contract: a CDATA section is what stands between its texts.
-- proofs/Betweens.antt has the law.
use Rattle.plain.proofs.Betweens.{enclosed}
use Rattle.plain.proofs.section.section.Goals as goal

pub returns : goal.returns
returns c = search enclosed
