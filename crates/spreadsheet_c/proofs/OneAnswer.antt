-- Two results that the contract of `choughbell_rows` allows are equal, with what is left in the buffer, over the contract that the
-- toolchain makes of the source.
use mathlib.Core.Path.{sym, ◌∙◌}
use Rattle.contracts.specs.One.{OneOutcome}
use Rattle.spreadsheet_c.proofs.choughbell_rows.Reads as rows

pub rows_one : OneOutcome rows.Asked rows.Learnt (λ κs e. e.1.1.0.now)
rows_one κs a z z' e e' x p q = (p.0 ∙ sym q.0, p.1 ∙ sym q.1)
