-- Two results that the contract of `cut_all` or `cut_all_by` allows are equal, the answer and every byte of the buffer: over the contracts
-- that the toolchain makes of the source. So are the three numbers, which are functions of the answer.
use mathlib.Core.Path.{sym, ◌∙◌}
use Rattle.contracts.specs.One.{OneOutcome}
use Rattle.batch.proofs.cut_all.Reads as cut_all
use Rattle.batch.proofs.cut_all_by.Reads as cut_all_by

-- `cut_all`
pub cut_all_one : OneOutcome cut_all.Asked cut_all.Learnt (λ κs e. e.1.1.0.now)
cut_all_one κs a z z' e e' x p q = (p.0 ∙ sym q.0, p.1 ∙ sym q.1)

-- `cut_all_by`
pub cut_all_by_one : OneOutcome cut_all_by.Asked cut_all_by.Learnt (λ κs e. e.1.1.1.0.now)
cut_all_by_one κs a z z' e e' x p q = (p.0 ∙ sym q.0, p.1 ∙ sym q.1)
