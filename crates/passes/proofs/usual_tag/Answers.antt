-- `usual_tag` meets its contract: an end tag of the open name, a start tag that may stand there, or nothing told.
-- proofs/Telling.antt has a law for each way out.
use Rattle.passes.proofs.Telling.{usual_tags, usual_start}
use Rattle.passes.proofs.usual_tag.Goals as goal

pub returns-then-size-gt0 : goal.returns-then-size-gt0
returns-then-size-gt0 c = search usual_tags

pub returns-then-not-twice : goal.returns-then-not-twice
returns-then-not-twice c =
    let p = c.requires in
    usual_start p.0 p.3 _ p.4 p.5 c.if-doc-at-eq1.false
    c.if-level-eq-LEVELS.false
    c.if-doc-at-lt64.false c.next_tag-next.ensures
    c.in-Start.is c.if-not-twice.true-raw
