-- `choughbell_characters` meets its contract: each case of the answer gives its number.
-- proofs/Numbering.antt has the laws.
use Rattle.exported.proofs.Numbering.{numbering}
use Rattle.exported.proofs.choughbell_characters.Goals as goal

pub returns-in-Ok : goal.returns-in-Ok
returns-in-Ok c = search numbering

pub returns-in-Err : goal.returns-in-Err
returns-in-Err c = search numbering
