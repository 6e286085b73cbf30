-- `digits` meets its contract, by one law for each way out of a turn.
-- proofs/Numbers.antt has them.
use Rattle.references.proofs.Numbers.{number_short, number_ends, number_fault, number_more}
use Rattle.references.proofs.reference.digits.Goals as goal

pub returns-then-ends_number : goal.returns-then-ends_number
returns-then-ends_number c =
    number_ends c.args.doc.now c.args.at c.requires.0 c.requires.1 c.loop-k.invariant
    c.loop-k-test.true c.from.ensures c.in_default.ensures.value c.ends_number.ensures
    c.if-ends_number.true

pub returns-in_default : goal.returns-in_default
returns-in_default c =
    number_fault c.args.doc.now c.args.at c.requires.0 c.requires.1 c.loop-k.invariant
    c.loop-k-test.true c.from.ensures c.in_default.ensures.value c.ends_number.ensures
    c.if-ends_number.false

pub loop-k-preserved : goal.loop-k-preserved
loop-k-preserved c =
    number_more c.args.doc.now c.args.at c.requires.0 c.requires.1 c.loop-k.invariant
    c.loop-k-test.true c.from.ensures c.in-Some.ensures.value c.with_digit-n.ensures

pub returns : goal.returns
returns c = number_short c.args.doc.now c.args.at c.requires.0 c.requires.1 c.loop-k.invariant
    c.loop-k-test.false
