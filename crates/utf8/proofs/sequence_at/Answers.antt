-- `sequence_at` meets its contract: the four bytes pass the rows exactly if a character stands there, and then they make its code point.
-- proofs/Formed.antt has the laws.
use Rattle.utf8.proofs.Formed.{point_good, pointing}
use Rattle.utf8.proofs.sequence_at.Goals as goal

pub returns-then-s-at : goal.returns-then-s-at
returns-then-s-at c = search pointing

pub returns-then-is_formed : goal.returns-then-is_formed
returns-then-is_formed c =
    point_good c.args.s.now c.args.at c.if-s-at.false
    c.byte_after-b.ensures c.byte_after-c.ensures c.byte_after-d.ensures
    c.is_formed.ensures c.if-is_formed.true c.value_of.ensures c.size_of.ensures.0

pub returns : goal.returns
returns c = search pointing
