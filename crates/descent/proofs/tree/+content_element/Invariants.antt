-- `element` and `content` end: the levels left fall from call to call, and the loop of `content` falls by the bytes left.
-- Its invariant is `Reading`.
use Rattle.std.proofs.Common.{◌+◌, ◌-◌, ◌*◌, length}
use Rattle.descent.proofs.Reading.{Reading}
use Rattle.descent.proofs.tree.+content_element.Given as goal

abbrev pub decreases-content : goal.decreases-content
decreases-content l = 2 * (64 - l.opened.level.0) + 1

abbrev pub decreases-element : goal.decreases-element
decreases-element l = 2 * (64 - l.level)

abbrev pub invariant-content-loop-why : goal.invariant-content-loop-why
invariant-content-loop-why l =
    Reading l.list l.doc l.starts l.lens l.level l.kept l.initial.rooted l.initial.at l.initial.first l.initial.run l.initial.out
    l.rooted l.at l.first l.run l.out

abbrev pub decreases-content-loop-why : goal.decreases-content-loop-why
decreases-content-loop-why l = length l.doc - l.at
