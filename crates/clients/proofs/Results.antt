-- Four clients. Equal numbers of each, laid one behind the other, are equal results; and equal answers have the same results. Then
-- `results_numbers`, each client has in the results the numbers that `choughbell_cut` hands back for its answer. Last, two results that the
-- contract of `choughbell_four` or `choughbell_four_with` allows are equal: all sixteen numbers and every byte of the four buffers, over
-- the contracts that the toolchain makes of the source. Of the logs nothing is said.
use mathlib.Core.Path.{◌≡◌, refl, sym, ◌∙◌}
use mathlib.Core.List.{List, [], ◌∷◌}
use Prim.Native.Nat.{ℕ}
use Rattle.std.specs.Prelude.{Result}
use Rattle.contracts.specs.One.{OneOutcome}
use Rattle.cutter.specs.declared.answer.Cut.{Cut}
use Rattle.refusals.specs.declared.CutError.{CutError}
use Rattle.exported.specs.Numbers.{numbers_of}
use Rattle.clients.specs.Results.{results_of}
use Rattle.exported.specs.declared.FourNumbers.{FourNumbers}
use Rattle.clients.proofs.choughbell_four.Reads as four
use Rattle.clients.proofs.choughbell_four_with.Reads as four_with

-- the numbers of a client, before those of others
abbrev pub laid : FourNumbers → List ℕ → List ℕ
laid z ns = z.number ∷ z.second ∷ z.third ∷ z.fourth ∷ ns

pub laid_same : {w x y z w' x' y' z' : FourNumbers} → w ≡ w' → x ≡ x' → y ≡ y' → z ≡ z'
    → laid w (laid x (laid y (laid z []))) ≡ laid w' (laid x' (laid y' (laid z' [])))
laid_same p q r s = rw (p, q, r, s)

results_ap : {a b c d a' b' c' d' : Result Cut CutError} → a ≡ a' → b ≡ b' → c ≡ c' → d ≡ d' → results_of a b c d ≡ results_of a' b' c' d'
results_ap p q r s = rw (p, q, r, s)

pub results_same : {a b c d a' b' c' d' : Result Cut CutError} {ns : List ℕ} → ns ≡ results_of a b c d → a ≡ a' → b ≡ b' → c ≡ c' → d ≡ d'
    → ns ≡ results_of a' b' c' d'
results_same e p q r s = e ∙ results_ap p q r s

pub results_numbers : (a b c d : Result Cut CutError)
    → results_of a b c d ≡ laid (numbers_of a) (laid (numbers_of b) (laid (numbers_of c) (laid (numbers_of d) [])))
results_numbers a b c d = refl

-- ---- one answer

pub all_same : {n a b c d n' a' b' c' d' : List ℕ} → n ≡ n' → a ≡ a' → b ≡ b' → c ≡ c' → d ≡ d'
    → ◌≡◌ {A = List (List ℕ)} (n ∷ a ∷ b ∷ c ∷ d ∷ []) (n' ∷ a' ∷ b' ∷ c' ∷ d' ∷ [])
all_same m p q r s = rw (m, p, q, r, s)

pub four_one : OneOutcome four.Asked four.Learnt
    (λ κs e. e.1.1.1.1.1.1.1.1.1.0.now ∷ e.1.1.1.1.1.0.now ∷ e.1.1.1.1.1.1.0.now ∷ e.1.1.1.1.1.1.1.0.now ∷ e.1.1.1.1.1.1.1.1.0.now ∷ [])
four_one κs a z z' e e' x p q = (
  refl,
  all_same (p.0 ∙ sym q.0) (p.1.0 ∙ sym q.1.0) (p.1.1.0 ∙ sym q.1.1.0) (p.1.1.1.0 ∙ sym q.1.1.1.0)
      (p.1.1.1.1 ∙ sym q.1.1.1.1),
)

pub four_with_one : OneOutcome four_with.Asked four_with.Learnt
    (λ κs e. e.1.1.1.1.1.1.1.1.1.1.1.1.1.0.now ∷ e.1.1.1.1.1.0.now ∷ e.1.1.1.1.1.1.0.now ∷ e.1.1.1.1.1.1.1.0.now ∷ e.1.1.1.1.1.1.1.1.0.now ∷
    [])
four_with_one κs a z z' e e' x p q = (
  refl,
  all_same (p.0 ∙ sym q.0) (p.1.0 ∙ sym q.1.0) (p.1.1.0 ∙ sym q.1.1.0) (p.1.1.1.0 ∙ sym q.1.1.1.0)
      (p.1.1.1.1 ∙ sym q.1.1.1.1),
)
