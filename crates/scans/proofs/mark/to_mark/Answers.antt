-- `to_mark` meets its contract. The loop's invariant: no mark stands from `from` up to i, a place inside.
-- The measure is what is left of the slice; each turn passes 16 bytes at least.
use borrow.Author.Rules.{rules}
use Rattle.blocks.proofs.Until.{seek_block, seek_on}
use Rattle.scans.proofs.Marks.{marking, mark_found}
use Rattle.scans.proofs.mark.to_mark.Goals as goal

pub returns-then-from-s : goal.returns-then-from-s
returns-then-from-s c = search marking

pub returns-then-n-lt16 : goal.returns-then-n-lt16
returns-then-n-lt16 c =
    mark_found c.loop-i.invariant (search rules) c.before16-n.ensures (search rules)

pub loop-i-preserved-then-i-from-eq64 : goal.loop-i-preserved-then-i-from-eq64
loop-i-preserved-then-i-from-eq64 c =
    let block = seek_block c.loop-i.invariant (search rules) c.before16-n.ensures (search rules) in
    seek_on block c.after_blocks-i.ensures

pub loop-i-preserved : goal.loop-i-preserved
loop-i-preserved c =
    seek_block c.loop-i.invariant (search rules) c.before16-n.ensures (search rules)

pub returns : goal.returns
returns c = search marking
