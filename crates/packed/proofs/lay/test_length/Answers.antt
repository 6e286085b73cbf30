-- `test_length` meets its contract: no test, or one.
-- proofs/Laying.antt has the laws.
use Rattle.packed.proofs.Laying.{test_long_none, test_long_some}
use Rattle.packed.proofs.lay.test_length.Goals as goal

pub returns-then-len-eq0 : goal.returns-then-len-eq0
returns-then-len-eq0 c = test_long_none c.args.len c.args.size c.if-len-eq0.true

pub returns : goal.returns
returns c =
    test_long_some c.args.len c.args.size c.if-len-eq0.false c.requires.0 c.requires.1
