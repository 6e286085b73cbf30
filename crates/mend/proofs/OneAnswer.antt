-- Two results that one contract allows are equal, with what is left in the buffer: over the contracts that the toolchain makes of the
-- source, one theorem for each function that another file can call.
use mathlib.Core.Path.{◌≡◌, sym, ap, ◌∙◌}
use mathlib.Core.List.{List}
use Prim.Native.Nat.{ℕ}
use Rattle.std.specs.Prelude.{Result}
use Rattle.contracts.specs.One.{OneOutcome}
use Rattle.mend.specs.Answer.{after}
use Rattle.mend.specs.declared.Mended.{Mended}
use Rattle.mend.specs.declared.MendError.{MendError}
use Rattle.mend.proofs.laid.laid.Reads as laid
use Rattle.mend.proofs.kept.mended.Reads as mended
use Rattle.mend.proofs.mend.Reads as mend

-- one answer, and the buffer by it
by_answer : (w o : List ℕ) {a r r' : Result Mended MendError} {x x' : List ℕ} → (r ≡ a) × (x ≡ after r w o) → (r' ≡ a) × (x' ≡ after r' w o)
    → (r ≡ r') × (x ≡ x')
by_answer w o p q =
    let e = p.0 ∙ sym q.0 in
    (e, p.1 ∙ ap (λ (r : Result Mended MendError). after r w o) e ∙ sym q.1)

-- `laid::laid`
pub laid_one : OneOutcome laid.Asked laid.Learnt (λ κs e. e.1.1.1.1.1.0.now)
laid_one κs a z z' e e' x p q = by_answer _ _ p q

-- `kept::mended`
pub mended_one : OneOutcome mended.Asked mended.Learnt (λ κs e. e.1.0.now)
mended_one κs a z z' e e' x p q = by_answer _ _ p q

-- `mend`
pub mend_one : OneOutcome mend.Asked mend.Learnt (λ κs e. e.1.0.now)
mend_one κs a z z' e e' x p q = (p.0 ∙ sym q.0, p.1 ∙ sym q.1)
