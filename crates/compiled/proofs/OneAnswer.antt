-- Two results that the contract of `read` allows are equal, the answer and every entry of the tables: over the contract that the toolchain
-- makes of the source. The list that it is lent cannot be changed.
use mathlib.Core.Path.{sym, ◌∙◌}
use Rattle.contracts.specs.One.{OneOutcome}
use Rattle.compiled.proofs.compile.read.Reads as read

-- `compile::read`
pub read_one : OneOutcome read.Asked read.Learnt (λ κs e. e.1.0.now)
read_one κs a z z' e e' x p q = (p.0 ∙ sym q.0, p.1 ∙ sym q.1)
