-- The functions over a batch's bytes. In order: the layout, one law for each way out, and for the loop an invariant, `Judging`: whole
-- entries reach from the place as far as they do from the front; what a sound layout says.
use mathlib.Core.Path.{◌≡◌, refl, sym, ap, ◌∙◌}
use mathlib.Core.Bool.{Bool, true, false, cond}
use mathlib.Core.List.{List, []}
use Rattle.std.specs.Prelude.{Ok}
use Prim.Native.Nat.{ℕ, zero, suc, ◌+◌, ◌-◌, ◌≤◌, ◌<◌}
use native.Mathlib.Omega.{arith}
use borrow.Author.Tests.{eq-eqb, ne_eqb, lt-ltb, le-ltb, eqb-true, eqb-false, ltb-false}
use lib.Dec.{ltb, eqb}
use lib.ListN.{length, get_or, drop}
use Rattle.bundle.specs.Batch.{print_entries, number_at, entries_from, entries_of, reach_of, fault_at, layout_of}
use Rattle.bundle.proofs.Entries.{next_at, document_at, at_whole, at_fault, at_end, document_long, entry_long, entries_inside, Stands}

-- ---- the layout

positive : (k : ℕ) → (k ≡ 0 → ⊥) → 1 ≤ k
positive zero h = absurd (h refl)
positive (suc k) h = omega arith

module _ (b : List ℕ) where
  pub judge_empty : length b ≡ 0 → fault_at 0 ≡ layout_of b
  unfolding layout_of
  judge_empty e = rw (eq-eqb (length b) 0 e) refl

  pub judge_over : 67108864 < length b → fault_at 0 ≡ layout_of b
  unfolding layout_of
  judge_over l = rw (ne_eqb (length b) 0 (λ e. omega (arith, e)), lt-ltb 67108864 (length b) l) refl

  pub judge_version : (length b ≡ 0 → ⊥) → length b ≤ 67108864 → (get_or b 0 0 ≡ 1 → ⊥) → fault_at 0 ≡ layout_of b
  unfolding layout_of
  judge_version n l v =
      rw (ne_eqb (length b) 0 n, le-ltb 67108864 (length b) l, ne_eqb (get_or b 0 0) 1 v) refl

  -- what is left to the lengths
  pub record Fronted : Type 0 where
    pub some : length b ≡ 0 → ⊥
    pub small : length b ≤ 67108864
    pub version : get_or b 0 0 ≡ 1

  pub front_judged : Fronted → {x : Bool} → ltb (reach_of b) (length b) ≡ x → cond x (fault_at (reach_of b)) (Ok tt) ≡ layout_of b
  unfolding layout_of
  front_judged f e =
      rw (ne_eqb (length b) 0 f.some, le-ltb 67108864 (length b) f.small, eq-eqb (get_or b 0 0) 1 f.version, e) refl

  -- how far whole entries reach from a place
  pub record Judging (at : ℕ) : Type 0 where
    pub front : Fronted
    pub inside : at ≤ length b
    pub reach : reach_of b ≡ at + length (print_entries (entries_from at b))

  pub judge_start : (length b ≡ 0 → ⊥) → length b ≤ 67108864 → get_or b 0 0 ≡ 1 → Judging 1
  unfolding reach_of entries_of
  judge_start n l v =
      record {
        front = record { some = n; small = l; version = v };
        inside = positive (length b) n;
        reach = omega arith;
      }

  module _ {at : ℕ} (j : Judging at) where
    fault_judged : at < length b → entries_from at b ≡ [] → fault_at at ≡ layout_of b
    fault_judged l e =
        let z = ap (λ (ds : List (List ℕ)). length (print_entries ds)) e in
        let q : reach_of b ≡ at = omega (arith, z, j.reach) in
        ap fault_at (sym q) ∙ front_judged j.front (lt-ltb (reach_of b) (length b) (omega (arith, q)))

    pub judge_short : at < length b → length b - at < 4 → fault_at at ≡ layout_of b
    judge_short l h = fault_judged l (at_fault b at (omega arith))

    module _ {n : ℕ} (e : n ≡ number_at (drop at b)) (four : 4 ≤ length b - at) where
      pub judge_past : at < length b → length b - (at + 4) < n → fault_at at ≡ layout_of b
      judge_past l h = fault_judged l (at_fault b at (omega (arith, e)))

      pub judge_next : n ≤ length b - (at + 4) → Judging (at + 4 + n)
      judge_next h =
          let f : next_at b at ≤ length b = omega (arith, e) in
          let z = ap (λ (ds : List (List ℕ)). length (print_entries ds)) (at_whole b at f) in
          rw e
          (record {
            front = j.front;
            inside = f;
            reach =
                omega (arith, z, j.reach, document_long b at f, entry_long (document_at b at) (entries_from (next_at b at) b));
          })

    pub judge_sound : length b ≤ at → Ok tt ≡ layout_of b
    judge_sound l =
        let z = ap (λ (ds : List (List ℕ)). length (print_entries ds)) (at_end b at l) in
        front_judged j.front (le-ltb (reach_of b) (length b) (omega (arith, z, j.reach)))

pub ruleset judging = (judge_empty, judge_over, judge_version, judge_start, judge_short, judge_past, judge_next, judge_sound)

-- ---- what a sound layout says

pub record Whole (b : List ℕ) : Type 0 where
  pub small : length b ≤ 67108864
  pub version : get_or b 0 0 ≡ 1
  pub stands : Stands b 1

no_fault : {k : ℕ} → fault_at k ≡ Ok tt → ⊥
no_fault h = let z : ◌≡◌ {A = ℕ} 0 1 = cc in omega arith

tests_passed : (k : ℕ) (p q r s : Bool)
    → cond p (fault_at 0) (cond q (fault_at 0) (cond r (cond s (fault_at k) (Ok tt)) (fault_at 0))) ≡ Ok tt
    → (p ≡ false) × (q ≡ false) × (r ≡ true) × (s ≡ false)
tests_passed k true q r s h = absurd (no_fault h)
tests_passed k false true r s h = absurd (no_fault h)
tests_passed k false false false s h = absurd (no_fault h)
tests_passed k false false true true h = absurd (no_fault h)
tests_passed k false false true false h = (refl, refl, refl, refl)

pub sound_whole : (b : List ℕ) → layout_of b ≡ Ok tt → Whole b
unfolding layout_of reach_of entries_of
sound_whole b h =
    let (p, q, r, s) =
    tests_passed (reach_of b) (eqb (length b) 0) (ltb 67108864 (length b)) (eqb (get_or b 0 0) 1) (ltb (reach_of b) (length b)) h in
    let some = positive (length b) (eqb-false (length b) 0 p) in
    record {
      small = ltb-false 67108864 (length b) q;
      version = eqb-true (get_or b 0 0) 1 r;
      stands = record { inside = some; reach = omega (arith, ltb-false (reach_of b) (length b) s, entries_inside b 1 some) };
    }
