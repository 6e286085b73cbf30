-- `after_block` meets its contract: one law for each way through the code.
-- proofs/Owed.antt has them.
use Rattle.blocks.proofs.Owed.{block_plain, block_pairs, block_cut, block_odd, block_usual}
use Rattle.blocks.proofs.block.after_block.Goals as goal

pub returns-then-not-some_other64 : goal.returns-then-not-some_other64
returns-then-not-some_other64 c =
    let at = c.args in
    block_plain at.s.now at.i c.some_other64.ensures c.if-not-some_other64.true-raw

pub returns-then-e-i : goal.returns-then-e-i
returns-then-e-i c =
    let at = c.args in
    block_pairs at.s.now at.i c.some_other64.ensures c.if-not-some_other64.false-raw c.after_pairs-e.ensures
    c.if-e-i.true

pub returns-then-is_cut : goal.returns-then-is_cut
returns-then-is_cut c =
    let at = c.args in
    block_cut at.s.now at.i c.some_other64.ensures c.if-not-some_other64.false-raw c.after_pairs-e.ensures
    c.if-e-i.false c.is_cut.ensures c.if-is_cut.true

pub returns-then-some_odd64 : goal.returns-then-some_odd64
returns-then-some_odd64 c =
    let at = c.args in
    block_odd at.s.now at.i c.some_other64.ensures c.if-not-some_other64.false-raw c.after_pairs-e.ensures
    c.if-e-i.false c.is_cut.ensures c.if-is_cut.false c.some_odd64.ensures c.if-some_odd64.true

pub returns : goal.returns
returns c =
    let at = c.args in
    block_usual at.s.now at.i c.some_other64.ensures c.if-not-some_other64.false-raw c.after_pairs-e.ensures
    c.if-e-i.false c.is_cut.ensures c.if-is_cut.false c.some_odd64.ensures c.if-some_odd64.false
    c.after_later.ensures
