-- `name_end` meets its contract. The loop's invariant: a name starts at the place, and from there up to i there are name characters.
-- The measure is what is left of the document.
use native.Mathlib.Omega.{arith}
use borrow.Author.Rules.{rules}
use Rattle.tags.proofs.Usuals.{naming, naming_on, naming_ends}
use Rattle.tags.proofs.usual.name_end.Goals as goal

pub overflow_cast-b : goal.overflow_cast-b
overflow_cast-b c = omega (arith, c.shared_slice_known-2-1.given c.args.at)

pub loop-i-init : goal.loop-i-init
loop-i-init c = search naming

pub returns-then-doc-i-lt128 : goal.returns-then-doc-i-lt128
returns-then-doc-i-lt128 c =
    naming_ends c.loop-i.invariant (search rules) c.ascii8-n.ensures c.if-n-lt8.true c.if-doc-i-lt128.true

pub loop-i-preserved : goal.loop-i-preserved
loop-i-preserved c =
    naming_on c.loop-i.invariant (search rules) c.ascii8-n.ensures
