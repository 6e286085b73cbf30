-- Two results that a public function's contract allows are equal, and so is the tape after `put`: over the contracts that the toolchain
-- makes of the source.
use mathlib.Core.Path.{sym, ◌∙◌}
use Rattle.contracts.specs.One.{OneResult, OneOutcome}
use Rattle.tape.proofs.put.Reads as put
use Rattle.tape.proofs.begin_on.Reads as begin_on
use Rattle.tape.proofs.tag_on.Reads as tag_on

-- `put`
pub put_one : OneOutcome put.Asked put.Learnt (λ κs e. e.0.now)
put_one κs a z z' e e' x p q = (p.0 ∙ sym q.0, p.1 ∙ sym q.1)

-- `begin_on`
pub begin_on_one : OneResult begin_on.Asked begin_on.Learnt
begin_on_one κs a z z' e e' x p q = p ∙ sym q

-- `tag_on`
pub tag_on_one : OneResult tag_on.Asked tag_on.Learnt
tag_on_one κs a z z' e e' x p q = p ∙ sym q
