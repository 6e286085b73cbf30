-- Rows for a spreadsheet: a case of the answer gives its numbers; and two results that the contract of `choughbell_rows` allows are equal,
-- with what is left in the buffer.
use mathlib.Core.Path.{◌≡◌, sym, ap, ◌∙◌}
use Rattle.std.specs.Prelude.{Result}
use Rattle.contracts.specs.One.{OneOutcome}
use Rattle.sheet.specs.declared.Table.{Table}
use Rattle.refusals.specs.declared.CutError.{CutError}
use Rattle.spreadsheet.specs.Numbers.{rows_numbers}
use Rattle.exported.specs.declared.Numbers.{Numbers}
use Rattle.spreadsheet.proofs.choughbell_rows.Reads as rows

pub rows_case : {a b : Result Table CutError} {r : Numbers} → a ≡ b → r ≡ rows_numbers b → r ≡ rows_numbers a
rows_case h q = q ∙ sym (ap rows_numbers h)

pub ruleset rowing = (rows_case)

pub rows_one : OneOutcome rows.Asked rows.Learnt (λ κs e. e.1.1.0.now)
rows_one κs a z z' e e' x p q = (p.0 ∙ sym q.0, p.1 ∙ sym q.1)
