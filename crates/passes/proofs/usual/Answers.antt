-- `usual` meets its contract: a tag that `usual_tag` tells, text, or nothing told.
-- proofs/Telling.antt has the laws.
use Rattle.passes.proofs.Telling.{usuals}
use Rattle.passes.proofs.usual.Goals as goal

pub returns-then-doc-end-ne93 : goal.returns-then-doc-end-ne93
returns-then-doc-end-ne93 c = search usuals

pub returns-in-Some : goal.returns-in-Some
returns-in-Some c = search usuals
