-- Mending: a case of the answer gives its numbers; and two results that the contract of `choughbell_mend` allows are equal, with what is
-- left in the buffer.
use mathlib.Core.Path.{◌≡◌, sym, ap, ◌∙◌}
use Rattle.std.specs.Prelude.{Result}
use Rattle.contracts.specs.One.{OneOutcome}
use Rattle.mend.specs.declared.Mended.{Mended}
use Rattle.mend.specs.declared.MendError.{MendError}
use Rattle.exported.specs.Mending.{mended_numbers}
use Rattle.exported.specs.declared.FourNumbers.{FourNumbers}
use Rattle.exported.proofs.mending.choughbell_mend.Reads as mend

pub mended_case : {a b : Result Mended MendError} {r : FourNumbers} → a ≡ b → r ≡ mended_numbers b → r ≡ mended_numbers a
mended_case h q = q ∙ sym (ap mended_numbers h)

pub ruleset mending = (mended_case)

pub mend_one : OneOutcome mend.Asked mend.Learnt (λ κs e. e.1.0.now)
mend_one κs a z z' e e' x p q = (p.0 ∙ sym q.0, p.1 ∙ sym q.1)
