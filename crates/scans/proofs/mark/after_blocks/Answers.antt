-- `after_blocks` meets its contract. The loop's invariant: from `from` up to i no byte is a mark.
-- The measure is what is left of the slice.
use borrow.Author.Rules.{rules}
use Rattle.blocks.proofs.Until.{seek_past}
use Rattle.scans.proofs.mark.after_blocks.Goals as goal

pub loop-i-preserved : goal.loop-i-preserved
loop-i-preserved c =
    seek_past c.loop-i.invariant 64 (search rules) c.some_mark64.ensures c.if-some_mark64.false
