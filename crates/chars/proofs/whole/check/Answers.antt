-- `check` meets its contract. The loop's invariant: up to i there are Chars alone.
-- The measure is what is left of the slice.
use Rattle.chars.proofs.Checks.{checking, check_bad}
use Rattle.chars.proofs.whole.check.Goals as goal

pub returns-then-s-i : goal.returns-then-s-i
returns-then-s-i c = search checking

pub returns-then-i-bound : goal.returns-then-i-bound
returns-then-i-bound c =
    let found = c.after_chars-i.ensures in
    check_bad c.loop-i.invariant c.after_blocks-k.ensures found.passes c.if-s-i.false
    (found.s_value c.if-i-bound.true)
