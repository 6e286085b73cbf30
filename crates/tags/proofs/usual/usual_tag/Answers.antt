-- `usual_tag` meets its contract. The loop's invariant: a name of the tag is told, the attributes so far are gathered, and no name stands
-- twice among them. The measure is what is left of the document.
use Rattle.tags.proofs.Usuals.{usually, walk_empty, walk_within}
use Rattle.tags.proofs.usual.usual_tag.Goals as goal

pub overflow_sub-name : goal.overflow_sub-name
overflow_sub-name c = search usually

pub loop-starts-init : goal.loop-starts-init
loop-starts-init c = search usually

pub returns-then-stands : goal.returns-then-stands
returns-then-stands c = search usually

pub returns-then-stands-2 : goal.returns-then-stands-2
returns-then-stands-2 c =
    walk_empty c.loop-starts.invariant c.stands-in-loop-starts.ensures c.if-stands.false
    c.stands-in-loop-starts-2.ensures c.if-stands-2.true

pub note-requires : goal.note-requires
note-requires c =
    (search usually, walk_within c.loop-starts.invariant c.usual_attribute.ensures c.in-Some.is)

pub loop-starts-preserved : goal.loop-starts-preserved
loop-starts-preserved c = search usually
