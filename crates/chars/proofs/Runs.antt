-- Loops over runs of characters of a class: what is left is run through. In order: what one found sequence says; the loop's invariant, how
-- it goes on and where it ends; classes of ASCII characters, which a byte tells.
use mathlib.Core.Path.{◌≡◌, refl, sym, ap, ◌∙◌}
use mathlib.Core.Bool.{Bool, true, false}
use mathlib.Core.List.{List, [], ◌∷◌}
use mathlib.Core.Option.{Option as Maybe, none, some}
use Prim.Native.Nat.{ℕ, ◌+◌, ◌-◌, ◌≤◌, ◌<◌}
use native.Mathlib.Omega.{arith}
use borrow.Author.Tests.{ltb-true, ltb-false}
use lib.Dec.{ltb}
use lib.ListN.{length, get_or, drop, length-drop, length-append}
use lib.Seq.{drop-drop}
use Rattle.xml.specs.Utf8.{utf8}
use Rattle.xml.specs.Character.{character, holds, starts, wide, run}
use Rattle.xml.proofs.Bools.{true-false}
use Rattle.xml.proofs.Utf8.{utf8_low, utf8_long}
use Rattle.xml.proofs.Character.{character_low, character_high, character_split}
use Rattle.xml.proofs.Run.{starts_found, starts_low, run_step, run_stop}
use Rattle.utf8.specs.Place.{ends_at, Stands}
use Rattle.utf8.specs.Sequence.{point_at, sequence_at}
use Rattle.std.specs.Prelude.{Option, Some, None}
use Rattle.std.proofs.lemmas.Option.{some_pair_parts}
use Rattle.utf8.proofs.Place.{drop_step, drop_end, stands_ends}

-- ---- what one sequence says

module _ (d : List ℕ) (at : ℕ) {r : Option (ℕ × ℕ)} (q : r ≡ sequence_at d at) where
  pub found_point : {c e : ℕ} → r ≡ Some (c, e) → (character (drop at d) ≡ some c) × (e ≡ at + length (utf8 c))
  unfolding sequence_at
  found_point {c} {e} h = go (character (drop at d)) refl (sym h ∙ q)
    where
      go : (o : Maybe ℕ) → character (drop at d) ≡ o → Some (c, e) ≡ point_at at o
          → (o ≡ some c) × (e ≡ at + length (utf8 c))
      go none k z = absurd (let z : ◌≡◌ {A = ℕ} 0 1 = cc in omega arith)
      go (some x) k z =
          let (w, v) = some_pair_parts _ _ _ _ z in
          (ap some (sym w), v ∙ rw w)

  pub found_bad : r ≡ None → character (drop at d) ≡ none
  unfolding sequence_at
  found_bad h = go (character (drop at d)) refl (sym h ∙ q)
    where
      go : (o : Maybe ℕ) → character (drop at d) ≡ o → None ≡ point_at at o → o ≡ none
      go none k z = refl
      go (some x) k z = absurd (let z : ◌≡◌ {A = ℕ} 0 1 = cc in omega arith)

  module _ (p : ℕ → Bool) where
    pub point_starts : {c e : ℕ} → r ≡ Some (c, e) → starts p (drop at d) ≡ p c
    unfolding starts
    point_starts h = rw (found_point h).0

    pub bad_starts : r ≡ None → starts p (drop at d) ≡ false
    unfolding starts
    bad_starts h = rw (found_bad h)

  pub point_wide : {c e : ℕ} → r ≡ Some (c, e) → e ≡ at + wide (character (drop at d))
  point_wide h = (found_point h).1 ∙ rw (found_point h).0

-- ---- the loop

-- from at to i there are characters of the class p; where at is past the end, i is at
pub record Running (p : ℕ → Bool) (d : List ℕ) (at i : ℕ) : Type 0 where
  pub begun : at ≤ i
  pub bound : i - length d ≤ at - length d
  pub same : run p 0 (drop i d) ≡ run p 0 (drop at d)

pub run_start : {p : ℕ → Bool} {d : List ℕ} {at : ℕ} → Running p d at at
run_start = record { begun = omega arith; bound = omega arith; same = refl }

module _ {p : ℕ → Bool} {d : List ℕ} {at i : ℕ} (v : Running p d at i) where
  -- no character of the class stands there
  module _ (n : starts p (drop i d) ≡ false) (h : i ≤ length d) where
    pub run_stands : Stands d i (run p 0 (drop at d))
    run_stands = record { rest = sym (run_stop p (drop i d) n) ∙ v.same; inside = h }

    pub run_ends : i ≡ ends_at d at (run p 0 (drop at d))
    run_ends = stands_ends at run_stands v.begun

  -- nothing is left
  module _ (h : length d ≤ i) where
    run_empty : run p 0 (drop at d) ≡ []
    unfolding run
    run_empty = sym v.same ∙ ap (run p 0) (drop_end d i h)

    pub run_over : i ≡ ends_at d at (run p 0 (drop at d))
    unfolding ends_at
    run_over =
        let a : at ≤ i = v.begun in
        let b : i - length d ≤ at - length d = v.bound in
        rw run_empty (omega (arith, length-drop at d))

    pub run_whole : i ≤ length d → Stands d i (run p 0 (drop at d))
    run_whole l = record { rest = drop_end d i h ∙ sym run_empty; inside = l }

  -- a character of the class stands there
  module _ (y : starts p (drop i d) ≡ true) {e : ℕ} (w : e ≡ i + wide (character (drop i d))) (h : i < length d) where
    step_bounds : (i < e) × (e ≤ length d)
    step_bounds =
        let (c, k, z) = starts_found p (drop i d) y in
        let n : wide (character (drop i d)) ≡ length (utf8 c) = rw k in
        let s = ap length (character_split (drop i d) c k) ∙ length-append (utf8 c) _ in
        omega (arith, utf8_long c, length-drop i d)

    pub run_less : length d - e < length d - i
    run_less = omega (arith, step_bounds)

    pub run_on : Running p d at e
    run_on =
        let a : at ≤ i = v.begun in
        record {
          begun = omega (arith, step_bounds);
          bound = omega (arith, step_bounds);
          same = rw (w, ← drop-drop (wide (character (drop i d))) i d) (sym (run_step p (drop i d) y)) ∙ v.same;
        }

-- ---- classes of ASCII characters

-- the class holds no character from 0x80 on
pub record Ascii (p : ℕ → Bool) : Type 0 where
  pub none_high : (c : ℕ) → 0x80 ≤ c → p c ≡ false

module _ {p : ℕ → Bool} (k : Ascii p) (d : List ℕ) (i : ℕ) (h : i < length d) where
  pub starts_byte : starts p (drop i d) ≡ p (get_or d i 0)
  unfolding starts
  starts_byte = rw (drop_step d i h) (go (ltb (get_or d i 0) 0x80) refl)
    where
      high : (t : List ℕ) (o : Maybe ℕ) → 0x80 ≤ get_or d i 0 → character (get_or d i 0 ∷ t) ≡ o → holds p o ≡ p (get_or d i 0)
      high t none l e = sym (k.none_high _ l)
      high t (some c) l e = k.none_high c (character_high _ t c l e) ∙ sym (k.none_high _ l)

      go : (x : Bool) → ltb (get_or d i 0) 0x80 ≡ x → starts p (get_or d i 0 ∷ drop (i + 1) d) ≡ p (get_or d i 0)
      go true e = starts_low p _ _ (ltb-true _ 0x80 e)
      go false e = high (drop (i + 1) d) (character (get_or d i 0 ∷ drop (i + 1) d)) (ltb-false _ 0x80 e) refl

  pub byte_wide : p (get_or d i 0) ≡ true → i + 1 ≡ i + wide (character (drop i d))
  byte_wide y = rw (drop_step d i h) (go (ltb (get_or d i 0) 0x80) refl)
    where
      go : (x : Bool) → ltb (get_or d i 0) 0x80 ≡ x → i + 1 ≡ i + wide (character (get_or d i 0 ∷ drop (i + 1) d))
      go true e = let l = ltb-true _ 0x80 e in rw (character_low (get_or d i 0) (drop (i + 1) d) l, utf8_low (get_or d i 0) l)
      go false e = absurd (true-false y (k.none_high _ (ltb-false _ 0x80 e)))
