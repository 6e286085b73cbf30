-- `lay_test` meets its contract: no test, or its parts one behind another.
-- proofs/Laying.antt has the laws.
use mathlib.Core.Path.{refl}
use Rattle.packed.proofs.Laying.{placed_some}
use Rattle.packed.proofs.lay.lay_test.Goals as goal

pub returns : goal.returns
returns c =
    let s = c.args in
    placed_some s.list.now s.name s.len s.value s.size c.put-a.ensures c.if-len-eq0.false refl
    c.copy-b.ensures c.put-c.ensures refl c.copy.ensures
