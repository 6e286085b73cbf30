-- The ways through `deeper`, `verdict_on` and `tests_on`. `deeper`: the bits of the first p paths are carried. `verdict_on`: the hits of
-- the first p paths are joined, those that are last steps and those that are last steps of marked paths. `tests_on`: the tests of the first
-- p paths are summed.
use mathlib.Core.Path.{◌≡◌, refl, sym, ap, ap₂, ◌∙◌}
use mathlib.Core.Bool.{Bool, true, false}
use mathlib.Core.List.{List}
use Prim.Native.Nat.{ℕ, zero, suc, ◌+◌, ◌*◌, ◌≤◌, ◌<◌}
use native.Mathlib.Numerals.{add-one}
use native.Mathlib.Omega.{arith}
use lib.Bits.{bit_and, bit_or}
use lib.Count.{ones, ones-le}
use lib.ListN.{get_or, set, replicate}
use Rattle.matcher.specs.Says.{decided}
use Rattle.matcher.specs.State.{hits_of, carried, hits_at, carried_at, deeper_of, joined, nonzero, hit_at, any_hit, verdict_by}
use Rattle.matcher.specs.State.{tried_of, tests_at, summed, tests_by}
use Rattle.matcher.specs.declared.Verdict.TheVariants.{Unselected, Selected, Marked}
use Rattle.matcher.specs.declared.fit.Fit.{Fit}
use Rattle.matcher.specs.declared.state.MatchState.{MatchState}
use Rattle.matcher.proofs.Fill.{Filled, fill_start, fill_more, fill_end}

-- ---- `deeper`

pub record Carried (state passes stays goes far bits : List ℕ) (p : ℕ) : Type 0 where
  pub filled : Filled (carried_at state passes stays goes far) bits p

pub carry_start : (state passes stays goes far : List ℕ) → Carried state passes stays goes far (replicate 32 0) 0
carry_start state passes stays goes far = record { filled = fill_start (carried_at state passes stays goes far) }

pub carry_more : {state passes stays goes far bits : List ℕ} {p : ℕ} → Carried state passes stays goes far bits p → p < 32
    → {x : ℕ} → x ≡ carried (get_or state p 0) (get_or passes p 0) (get_or stays p 0) (get_or goes p 0) (get_or far p 0)
    → Carried state passes stays goes far (set bits p x) (p + 1)
unfolding carried_at
carry_more v l e = record { filled = fill_more v.filled l e }

pub carry_end : (m : MatchState) (f : Fit) {bits : List ℕ} {p : ℕ}
    → Carried m.bits f.passes f.stays f.goes f.far bits p → 32 ≤ p
    → ◌≡◌ {A = MatchState} (record { bits = bits }) (deeper_of m f)
unfolding deeper_of
carry_end m f v l = rw (fill_end v.filled l)

pub ruleset carrying = (carry_start, carry_more, carry_end)

-- ---- `verdict_on`

pub record Joining (state passes stays goes lasts marks : List ℕ) (selected marked p : ℕ) : Type 0 where
  pub p_in : p ≤ 32
  pub selected_is : selected ≡ joined (hit_at state passes stays goes lasts) p
  pub marked_is : marked ≡ joined (hit_at state passes stays goes marks) p

pub join_start : (state passes stays goes lasts marks : List ℕ) → Joining state passes stays goes lasts marks 0 0 0
join_start state passes stays goes lasts marks = record { p_in = omega arith; selected_is = refl; marked_is = refl }

module _ {state passes stays goes lasts marks : List ℕ} {selected marked p : ℕ}
    (v : Joining state passes stays goes lasts marks selected marked p) where
  joined_more : (among : List ℕ) {x t : ℕ} → t ≡ hits_of (get_or state p 0) (get_or passes p 0) (get_or stays p 0) (get_or goes p 0)
      → x ≡ joined (hit_at state passes stays goes among) p
      → bit_or x (bit_and t (get_or among p 0)) ≡ joined (hit_at state passes stays goes among) (p + 1)
  unfolding hit_at hits_at
  joined_more among d e = rw (add-one p, e, d)

  pub join_more : p < 32 → {t : ℕ} → t ≡ hits_of (get_or state p 0) (get_or passes p 0) (get_or stays p 0) (get_or goes p 0)
      → Joining state passes stays goes lasts marks
      (bit_or selected (bit_and t (get_or lasts p 0)))
      (bit_or marked (bit_and t (get_or marks p 0)))
      (p + 1)
  join_more l d =
      record { p_in = omega arith; selected_is = joined_more lasts d v.selected_is; marked_is = joined_more marks d v.marked_is }

pub nonzero_not : (n : ℕ) → (n ≡ 0 → ⊥) → nonzero n ≡ true
nonzero_not zero h = absurd (h refl)
nonzero_not (suc n) h = refl

pub nonzero_zero : (n : ℕ) → n ≡ 0 → nonzero n ≡ false
nonzero_zero zero h = refl
nonzero_zero (suc n) h = absurd (omega arith)

module _ (m : MatchState) (f : Fit) {selected marked p : ℕ}
    (v : Joining m.bits f.passes f.stays f.goes f.lasts f.marks selected marked p) (l : 32 ≤ p) where
  hit_is : (among : List ℕ) {x : ℕ} → x ≡ joined (hit_at m.bits f.passes f.stays f.goes among) p → nonzero x ≡ any_hit m f among
  unfolding any_hit
  hit_is among e =
      let z : p ≡ 32 = let y = v.p_in in omega arith in
      ap nonzero (e ∙ ap (joined (hit_at m.bits f.passes f.stays f.goes among)) z)

  whole : {b c : Bool} → nonzero marked ≡ b → nonzero selected ≡ c → decided b c ≡ verdict_by m f
  unfolding verdict_by
  whole q r = ap₂ decided (sym q ∙ hit_is f.marks v.marked_is) (sym r ∙ hit_is f.lasts v.selected_is)

  pub join_marked : (marked ≡ 0 → ⊥) → Marked ≡ verdict_by m f
  join_marked h = whole (nonzero_not marked h) refl

  pub join_selected : marked ≡ 0 → (selected ≡ 0 → ⊥) → Selected ≡ verdict_by m f
  join_selected e h = whole (nonzero_zero marked e) (nonzero_not selected h)

  pub join_none : marked ≡ 0 → selected ≡ 0 → Unselected ≡ verdict_by m f
  join_none e h = whole (nonzero_zero marked e) (nonzero_zero selected h)

pub ruleset joining = (join_start, join_more, join_marked, join_selected, join_none)

-- ---- `tests_on`

pub record Summing (state passes stays goes : List ℕ) (tests p : ℕ) : Type 0 where
  pub p_in : p ≤ 32
  pub few : tests ≤ 16 * p
  pub is : tests ≡ summed (tests_at state passes stays goes) p

pub sum_start : (state passes stays goes : List ℕ) → Summing state passes stays goes 0 0
sum_start state passes stays goes = record { p_in = omega arith; few = omega arith; is = refl }

pub sum_more : {state passes stays goes : List ℕ} {tests p : ℕ} → Summing state passes stays goes tests p → p < 32
    → {t : ℕ} → t ≡ tried_of (get_or state p 0) (get_or passes p 0) (get_or stays p 0) (get_or goes p 0) → t < 65536
    → Summing state passes stays goes (tests + ones t) (p + 1)
unfolding tests_at
sum_more {p = p} v l {t} d s =
    record {
      p_in = omega arith;
      few = let y = v.few in let z = ones-le 16 t s in omega arith;
      is = rw (add-one p, d, v.is);
    }

pub sum_end : (m : MatchState) (f : Fit) {tests p : ℕ} → Summing m.bits f.passes f.stays f.goes tests p → 32 ≤ p
    → tests ≡ tests_by m f
unfolding tests_by
sum_end m f {p = p} v l =
    let z : p ≡ 32 = let y = v.p_in in omega arith in
    v.is ∙ ap (summed (tests_at m.bits f.passes f.stays f.goes)) z

pub sum_few : {state passes stays goes : List ℕ} {tests p : ℕ} → Summing state passes stays goes tests p → tests ≤ 512
sum_few v = omega (arith, v.few, v.p_in)

pub ruleset summing = (sum_start, sum_more, sum_end, sum_few)
