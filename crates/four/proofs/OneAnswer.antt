-- Two results that the contract of `four` or `four_with` allows are equal, the answers and every byte of the four buffers: over the
-- contracts that the toolchain makes of the source. Of the logs nothing is said.
use mathlib.Core.Path.{◌≡◌, sym, ◌∙◌}
use mathlib.Core.List.{List, [], ◌∷◌}
use Prim.Native.Nat.{ℕ}
use Rattle.std.specs.Prelude.{Result}
use Rattle.contracts.specs.One.{OneOutcome}
use Rattle.cutter.specs.declared.answer.Cut.{Cut}
use Rattle.refusals.specs.declared.CutError.{CutError}
use Rattle.four.specs.declared.Answers.{Answers}
use Rattle.four.proofs.four.Reads as four
use Rattle.four.proofs.four_with.Reads as four_with

made_same : {a b c d a' b' c' d' : Result Cut CutError} → a ≡ a' → b ≡ b' → c ≡ c' → d ≡ d'
    → ◌≡◌ {A = Answers} (record { first = a; second = b; third = c; fourth = d })
    (record { first = a'; second = b'; third = c'; fourth = d' })
made_same p q r s = rw (p, q, r, s)

answers_same : {x y : Answers} → x.first ≡ y.first → x.second ≡ y.second → x.third ≡ y.third → x.fourth ≡ y.fourth → x ≡ y
answers_same a b c d = made_same a b c d

buffers_same : {a b c d a' b' c' d' : List ℕ} → a ≡ a' → b ≡ b' → c ≡ c' → d ≡ d'
    → ◌≡◌ {A = List (List ℕ)} (a ∷ b ∷ c ∷ d ∷ []) (a' ∷ b' ∷ c' ∷ d' ∷ [])
buffers_same p q r s = rw (p, q, r, s)

-- `four`
pub four_one : OneOutcome four.Asked four.Learnt
    (λ κs e. e.1.1.1.1.1.0.now ∷ e.1.1.1.1.1.1.0.now ∷ e.1.1.1.1.1.1.1.0.now ∷ e.1.1.1.1.1.1.1.1.0.now ∷ [])
four_one κs a z z' e e' x p q = (
  answers_same (p.0 ∙ sym q.0) (p.1.0 ∙ sym q.1.0) (p.1.1.0 ∙ sym q.1.1.0) (p.1.1.1.0 ∙ sym q.1.1.1.0),
  buffers_same (p.1.1.1.1.0 ∙ sym q.1.1.1.1.0) (p.1.1.1.1.1.0 ∙ sym q.1.1.1.1.1.0)
      (p.1.1.1.1.1.1.0 ∙ sym q.1.1.1.1.1.1.0) (p.1.1.1.1.1.1.1 ∙ sym q.1.1.1.1.1.1.1),
)

-- `four_with`
pub four_with_one : OneOutcome four_with.Asked four_with.Learnt
    (λ κs e. e.1.1.1.1.1.0.now ∷ e.1.1.1.1.1.1.0.now ∷ e.1.1.1.1.1.1.1.0.now ∷ e.1.1.1.1.1.1.1.1.0.now ∷ [])
four_with_one κs a z z' e e' x p q = (
  answers_same (p.0 ∙ sym q.0) (p.1.0 ∙ sym q.1.0) (p.1.1.0 ∙ sym q.1.1.0) (p.1.1.1.0 ∙ sym q.1.1.1.0),
  buffers_same (p.1.1.1.1.0 ∙ sym q.1.1.1.1.0) (p.1.1.1.1.1.0 ∙ sym q.1.1.1.1.1.0)
      (p.1.1.1.1.1.1.0 ∙ sym q.1.1.1.1.1.1.0) (p.1.1.1.1.1.1.1 ∙ sym q.1.1.1.1.1.1.1),
)
