-- `comment` meets its contract: a comment is what stands between its texts.
-- proofs/Betweens.antt has the law.
use Rattle.plain.proofs.Betweens.{enclosed}
use Rattle.plain.proofs.comment.comment.Goals as goal

pub returns : goal.returns
returns c = search enclosed
