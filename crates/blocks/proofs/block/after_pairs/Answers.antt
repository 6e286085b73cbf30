-- `after_pairs` meets its contract: one law for each way through the code.
-- proofs/Owed.antt has them.
use Rattle.blocks.proofs.Owed.{pairs_later, pairs_strange, pairs_over, pairs_end}
use Rattle.blocks.proofs.block.after_pairs.Goals as goal

pub returns-then-is_later : goal.returns-then-is_later
returns-then-is_later c =
    let at = c.args in
    pairs_later at.s.now at.i c.is_later.ensures c.if-is_later.true

pub returns-then-some_strange64 : goal.returns-then-some_strange64
returns-then-some_strange64 c =
    let at = c.args in
    pairs_strange at.s.now at.i c.is_later.ensures c.if-is_later.false c.some_strange64.ensures
    c.if-some_strange64.true

pub returns-then-is_later-2 : goal.returns-then-is_later-2
returns-then-is_later-2 c =
    let at = c.args in
    pairs_over at.s.now at.i c.is_later.ensures c.if-is_later.false c.some_strange64.ensures
    c.if-some_strange64.false c.is_later-2.ensures c.if-is_later-2.true

pub returns : goal.returns
returns c =
    let at = c.args in
    pairs_end at.s.now at.i c.is_later.ensures c.if-is_later.false c.some_strange64.ensures
    c.if-some_strange64.false c.is_later-2.ensures c.if-is_later-2.false
