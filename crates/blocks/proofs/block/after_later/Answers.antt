-- `after_later` meets its contract: one law for each way through the code.
-- proofs/Owed.antt has them.
use Rattle.blocks.proofs.Owed.{later_none, later_one, later_two, later_three}
use Rattle.blocks.proofs.block.after_later.Goals as goal

pub returns-then-not-is_later : goal.returns-then-not-is_later
returns-then-not-is_later c =
    let at = c.args in
    later_none at.s.now at.i c.is_later.ensures c.if-not-is_later.true-raw

pub returns-then-not-is_later-2 : goal.returns-then-not-is_later-2
returns-then-not-is_later-2 c =
    let at = c.args in
    later_one at.s.now at.i c.is_later.ensures c.if-not-is_later.false-raw c.is_later-2.ensures c.if-not-is_later-2.true-raw

pub returns-then-not-is_later-3 : goal.returns-then-not-is_later-3
returns-then-not-is_later-3 c =
    let at = c.args in
    later_two at.s.now at.i c.is_later.ensures c.if-not-is_later.false-raw c.is_later-2.ensures
    c.if-not-is_later-2.false-raw c.is_later-3.ensures c.if-not-is_later-3.true-raw

pub returns : goal.returns
returns c =
    let at = c.args in
    later_three at.s.now at.i c.is_later.ensures c.if-not-is_later.false-raw c.is_later-2.ensures
    c.if-not-is_later-2.false-raw c.is_later-3.ensures c.if-not-is_later-3.false-raw
