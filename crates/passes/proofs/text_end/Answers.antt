-- `text_end` meets its contract. The loop's invariant: no mark stands from the place up to i, a place inside.
-- The measure is what is left of the document.
use Prim.Native.Nat.{◌-◌}
use borrow.Author.Rules.{rules}
use Rattle.blocks.proofs.Until.{seek_block}
use Rattle.tags.proofs.Usuals.{mark_told}
use Rattle.passes.proofs.text_end.Goals as goal

pub returns-then-n-lt16 : goal.returns-then-n-lt16
returns-then-n-lt16 c = mark_told c.loop-i.invariant (search rules) c.before16-n.ensures (search rules)

pub loop-i-preserved : goal.loop-i-preserved
loop-i-preserved c =
    seek_block c.loop-i.invariant (search rules) c.before16-n.ensures (search rules)
