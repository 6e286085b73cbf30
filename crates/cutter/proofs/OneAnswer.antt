-- Two results that the contract of `cut`, `cut_by`, `cut_with` or `cut_by_with` allows are equal, the answer and every byte of the buffer:
-- over the contracts that the toolchain makes of the source. So are the three numbers of document 01, which are functions of the answer. Of
-- the log nothing is said.
use mathlib.Core.Path.{sym, ◌∙◌}
use Rattle.contracts.specs.One.{OneOutcome}
use Rattle.cutter.proofs.cut.Reads as cut
use Rattle.cutter.proofs.cut_by.Reads as cut_by
use Rattle.cutter.proofs.cut_with.Reads as cut_with
use Rattle.cutter.proofs.cut_by_with.Reads as cut_by_with

-- `cut`
pub cut_one : OneOutcome cut.Asked cut.Learnt (λ κs e. e.1.1.0.now)
cut_one κs a z z' e e' x p q = (p.0 ∙ sym q.0, p.1 ∙ sym q.1)

-- `cut_by`
pub cut_by_one : OneOutcome cut_by.Asked cut_by.Learnt (λ κs e. e.1.1.1.0.now)
cut_by_one κs a z z' e e' x p q = (p.0 ∙ sym q.0, p.1 ∙ sym q.1)

-- `cut_with`
pub cut_with_one : OneOutcome cut_with.Asked cut_with.Learnt (λ κs e. e.1.1.0.now)
cut_with_one κs a z z' e e' x p q = (p.0 ∙ sym q.0, p.1 ∙ sym q.1)

-- `cut_by_with`
pub cut_by_with_one : OneOutcome cut_by_with.Asked cut_by_with.Learnt (λ κs e. e.1.1.1.0.now)
cut_by_with_one κs a z z' e e' x p q = (p.0 ∙ sym q.0, p.1 ∙ sym q.1)
