-- A record that is kept and is of the row and the state asked for is what is known of them.
use mathlib.Core.Path.{◌≡◌, sym, ap, ap₂, ◌∙◌}
use mathlib.Core.Bool.{Bool, true}
use mathlib.Core.List.{List}
use Prim.Native.Nat.{ℕ, ◌≤◌}
use native.Mathlib.Omega.{arith}
use borrow.Author.Tests.{eqb-true}
use lib.Dec.{eqb}
use Rattle.matcher.specs.declared.state.MatchState.{MatchState}
use Rattle.recall.specs.Known.{is_of, known_of, Recalls, nothing, something}
use Rattle.recall.specs.declared.Known.{Known}
use Rattle.xml.specs.Productions.{same}
use Rattle.xml.proofs.Same.{same_equal}
use Rattle.xml.proofs.Bools.{and_left, and_right}

-- states are their bits
pub states_same : (m n : MatchState) → same m.bits n.bits ≡ true → m ≡ n
states_same m n h = ap (λ (b : List ℕ). record { bits = b }) (same_equal m.bits n.bits h)

-- known before
pub recalled : {counts : Bool} {t : List ℕ} {e : Known} → Recalls counts t e → {k : ℕ} → k ≤ 512 → (m : MatchState)
    → {b : Bool} → b ≡ is_of e k m → b ≡ true → (e ≡ known_of counts t k m) × (e.tests ≤ 512)
recalled {e = e} (nothing l) {k} h m s y =
    let r : e.row ≡ k = eqb-true e.row k (and_left (eqb e.row k) _ (sym s ∙ y)) in
    absurd (omega (arith, r, l, h))
recalled {counts} {t} {e} (something w few) {k} h m s y =
    let r : e.row ≡ k = eqb-true e.row k (and_left (eqb e.row k) _ (sym s ∙ y)) in
    (w ∙ ap₂ (known_of counts t) r (sym (states_same m e.parent (and_right (eqb e.row k) _ (sym s ∙ y)))), few)
