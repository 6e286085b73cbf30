-- `after_blocks` meets its contract. The loop's invariant: from `from` up to i there are Chars alone.
-- The measure is what is left of the slice.
use Rattle.chars.proofs.Checks.{passing}
use Rattle.chars.proofs.whole.after_blocks.Goals as goal

pub loop-i-smaller : goal.loop-i-smaller
loop-i-smaller c = search passing

pub loop-i-preserved : goal.loop-i-preserved
loop-i-preserved c = search passing
