-- `name_run` meets its contract. The loop's invariant: from at up to i there are name characters, and i is no place past the end.
-- The measure is what is left of the slice.
use borrow.Author.Rules.{rules}
use Rattle.chars.proofs.Names.{wording, words_on, words_end, after_end, after_less, after_on}
use Rattle.chars.proofs.name.name_run.Goals as goal

pub returns-then-at-s : goal.returns-then-at-s
returns-then-at-s c = search wording

pub loop-i-preserved-then-n-eq8 : goal.loop-i-preserved-then-n-eq8
loop-i-preserved-then-n-eq8 c =
    words_on c.loop-i.invariant (search rules) c.ascii8-n.ensures

pub returns-then-s-i-lt128 : goal.returns-then-s-i-lt128
returns-then-s-i-lt128 c =
    words_end c.loop-i.invariant (search rules) c.ascii8-n.ensures c.if-n-eq8.false c.if-s-i-lt128.true

pub returns-then-e-i : goal.returns-then-e-i
returns-then-e-i c =
    after_end c.loop-i.invariant (search rules) c.ascii8-n.ensures c.if-n-eq8.false
    c.name_step-e.ensures c.if-e-i.true

pub loop-i-smaller : goal.loop-i-smaller
loop-i-smaller c =
    after_less c.loop-i.invariant (search rules) c.ascii8-n.ensures c.if-n-eq8.false
    c.name_step-e.ensures c.if-e-i.false

pub loop-i-preserved : goal.loop-i-preserved
loop-i-preserved c =
    after_on c.loop-i.invariant (search rules) c.ascii8-n.ensures c.if-n-eq8.false
    c.name_step-e.ensures c.if-e-i.false

pub returns : goal.returns
returns c = search wording
