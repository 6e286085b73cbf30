-- Two results that the contract of `rows` allows are equal, the answer and every byte of the buffer: over the contract that the toolchain
-- makes of the source. So are the three numbers, which are functions of the answer.
use mathlib.Core.Path.{sym, ◌∙◌}
use Rattle.contracts.specs.One.{OneOutcome}
use Rattle.sheet.proofs.rows.Reads as rows

-- `rows`
pub rows_one : OneOutcome rows.Asked rows.Learnt (λ κs e. e.1.1.0.now)
rows_one κs a z z' e e' x p q = (p.0 ∙ sym q.0, p.1 ∙ sym q.1)
