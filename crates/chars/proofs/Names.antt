-- Names by their characters' classes. In order: one step of a name, by an ASCII byte or by a sequence; the run of name characters, one at
-- a time; the run by words; the first character, and the answer.
use mathlib.Core.Path.{◌≡◌, refl, sym, ap, ◌∙◌}
use mathlib.Core.Bool.{Bool, true, false, cond, ◌&&◌}
use mathlib.Core.List.{List}
use Prim.Native.Nat.{ℕ, zero, suc, ◌+◌, ◌-◌, ◌≤◌, ◌<◌}
use native.Mathlib.Nat.{add-zero}
use native.Mathlib.Omega.{arith}
use borrow.Author.Tests.{ltb-true, lt-ltb, not-false, not-true}
use lib.Dec.{ltb}
use lib.ListN.{length, get_or, drop, length-drop}
use Rattle.xml.specs.Character.{character, starts, wide}
use Rattle.xml.specs.Productions.{is_name_start, is_name}
use Rattle.xml.proofs.Bools.{and_left, and_right}
use Rattle.xml.proofs.Utf8.{utf8_low}
use Rattle.xml.proofs.Character.{character_low}
use Rattle.xml.proofs.Run.{starts_nil, starts_low, wide_long, run_length}
use Rattle.chars.specs.Name.{name_of, name_at, name_end, name_step}
use Rattle.utf8.specs.Place.{ends_at}
use Rattle.utf8.specs.Sequence.{sequence_at}
use Rattle.std.specs.Prelude.{Option, Some, None}
use Rattle.blocks.specs.Block.{First}
use Rattle.words.specs.Word.{is_no_name}
use Rattle.utf8.proofs.Place.{drop_step, drop_end}
use Rattle.chars.proofs.Runs.{point_starts, bad_starts, point_wide, Running, run_start, run_ends, run_over, run_less, run_on}

-- ---- one step

module _ (d : List ℕ) (at : ℕ) where
  stays : starts is_name (drop at d) ≡ false → at ≡ name_step d at
  unfolding name_step
  stays n = sym (rw n)

  goes : starts is_name (drop at d) ≡ true → at + wide (character (drop at d)) ≡ name_step d at
  unfolding name_step
  goes y = sym (rw y)

  -- by an ASCII byte
  module _ (h : at < length d) (l : get_or d at 0 < 0x80) {k : Bool} (q : k ≡ is_name (get_or d at 0)) where
    low_starts : starts is_name (drop at d) ≡ is_name (get_or d at 0)
    low_starts = rw (drop_step d at h) (starts_low is_name _ _ l)

    pub low_stays : k ≡ false → at ≡ name_step d at
    low_stays e = stays (low_starts ∙ sym q ∙ e)

    pub low_goes : k ≡ true → at + 1 ≡ name_step d at
    low_goes e =
        let w : wide (character (drop at d)) ≡ 1 = rw (drop_step d at h, character_low _ (drop (at + 1) d) l, utf8_low _ l) in
        ap (λ (x : ℕ). at + x) (sym w) ∙ goes (low_starts ∙ sym q ∙ e)

  -- by a sequence
  module _ {r : Option (ℕ × ℕ)} (q : r ≡ sequence_at d at) where
    pub bad_stays : r ≡ None → at ≡ name_step d at
    bad_stays b = stays (bad_starts d at q is_name b)

    module _ {c e : ℕ} (f : r ≡ Some (c, e)) {k : Bool} (g : k ≡ is_name c) where
      pub point_stays : k ≡ false → at ≡ name_step d at
      point_stays z = stays (point_starts d at q is_name f ∙ sym g ∙ z)

      pub point_goes : k ≡ true → e ≡ name_step d at
      point_goes z = point_wide d at q f ∙ goes (point_starts d at q is_name f ∙ sym g ∙ z)

pub ruleset stepping = (low_stays, low_goes, bad_stays, point_stays, point_goes)

-- ---- the run

module _ (d : List ℕ) (i : ℕ) {e : ℕ} (q : e ≡ name_step d i) where
  step_stuck : e ≡ i → starts is_name (drop i d) ≡ false
  unfolding name_step
  step_stuck h = go (starts is_name (drop i d)) refl (sym q ∙ h)
    where
      go : (x : Bool) → starts is_name (drop i d) ≡ x → cond x (i + wide (character (drop i d))) i ≡ i → x ≡ false
      go true y z = absurd (omega (arith, wide_long (character (drop i d))))
      go false y z = refl

  step_moved : (e ≡ i → ⊥) → (starts is_name (drop i d) ≡ true) × (e ≡ i + wide (character (drop i d)))
  unfolding name_step
  step_moved n = go (starts is_name (drop i d)) refl q
    where
      go : (x : Bool) → starts is_name (drop i d) ≡ x → e ≡ cond x (i + wide (character (drop i d))) i
          → (x ≡ true) × (e ≡ i + wide (character (drop i d)))
      go true y z = (refl, z)
      go false y z = absurd (n z)

  module _ {at : ℕ} (v : Running is_name d at i) (h : i < length d) where
    pub names_end : e ≡ i → i ≡ name_end d at
    unfolding name_end
    names_end z = run_ends v (step_stuck z) (omega arith)

    module _ (n : e ≡ i → ⊥) where
      pub names_less : length d - e < length d - i
      names_less = run_less v (step_moved n).0 (step_moved n).1 h

      pub names_on : Running is_name d at e
      names_on = run_on v (step_moved n).0 (step_moved n).1 h

pub names_over : {d : List ℕ} {at i : ℕ} → Running is_name d at i → length d ≤ i → i ≡ name_end d at
unfolding name_end
names_over v h = run_over v h

pub ruleset naming = (run_start, names_end, names_less, names_on, names_over)

-- ---- the run, by words

-- a byte that is an ASCII name character, and one that is no such but ASCII
module _ (b : ℕ) where
  passed_byte : is_no_name b ≡ false → (b < 0x80) × (is_name b ≡ true)
  unfolding is_no_name
  passed_byte e =
      let t = not-false (ltb b 0x80 && is_name b) e in
      (ltb-true b 0x80 (and_left (ltb b 0x80) (is_name b) t), and_right (ltb b 0x80) (is_name b) t)

  other_byte : is_no_name b ≡ true → b < 0x80 → is_name b ≡ false
  unfolding is_no_name
  other_byte e l = rw (lt-ltb b 0x80 l) at (not-true (ltb b 0x80 && is_name b) e)

passes : {d : List ℕ} {at i : ℕ} → Running is_name d at i → (n : ℕ) → i + n ≤ length d
    → ((k : ℕ) → k < n → is_no_name (get_or d (i + k) 0) ≡ false) → Running is_name d at (i + n)
passes {d} {at} {i} v zero h f = rw (add-zero i) v
passes {d} {at} {i} v (suc n) h f =
    let (l, y) = passed_byte (get_or d (i + n) 0) (f n (omega arith)) in
    let one : (i + n) + 1 ≡ i + suc n = omega arith in
    let m = passes v n (omega arith) (λ k g. f k (omega arith)) in
    rw one at (names_on d (i + n) (low_goes d (i + n) (omega arith) l refl y) m (omega arith) (λ z. omega arith))

-- from at to i, which is no place past the end, there are name characters
pub record Passing (d : List ℕ) (at i : ℕ) : Type 0 where
  pub inside : i ≤ length d
  pub running : Running is_name d at i

pub words_start : {d : List ℕ} {at : ℕ} → at < length d → Passing d at at
words_start h = record { inside = omega arith; running = run_start }

module _ {d : List ℕ} {at i : ℕ} (v : Passing d at i) where
  -- what one character at a time leads to from there
  pub words_over : {r : ℕ} → r ≡ name_end d i → r ≡ name_end d at
  unfolding name_end ends_at
  words_over e =
      let l = run_length is_name (drop i d) in
      let w = v.inside in
      omega (arith, e, v.running.begun, ap length v.running.same, length-drop i d, length-drop at d)

  -- n of the eight bytes at i stand before the first that is no ASCII name character
  module _ (l : i + 8 ≤ length d) {n : ℕ} (f : First (λ k. is_no_name (get_or d (i + k) 0)) 8 n) where
    passed : Running is_name d at (i + n)
    passed = let w = f.within in passes v.running n (omega arith) f.passed

    pub words_on : Passing d at (i + n)
    words_on = let w = f.within in record { inside = omega arith; running = passed }

    module _ (z : n ≡ 8 → ⊥) where
      short : i + n < length d
      short = let w = f.within in omega arith

      pub words_end : get_or d (i + n) 0 < 0x80 → i + n ≡ name_end d at
      words_end g =
          let w = f.within in
          let other = other_byte (get_or d (i + n) 0) (f.found (omega arith)) g in
          names_end d (i + n) (low_stays d (i + n) short g refl other) passed short refl

      -- the character after them
      module _ {e : ℕ} (q : e ≡ name_step d (i + n)) where
        pub after_end : e ≡ i + n → i + n ≡ name_end d at
        after_end g = names_end d (i + n) q passed short g

        module _ (g : e ≡ i + n → ⊥) where
          pub after_less : length d - e < length d - i
          after_less = let h = names_less d (i + n) q passed short g in omega arith

          pub after_on : Passing d at e
          after_on =
              let r = names_on d (i + n) q passed short g in
              record { inside = omega (arith, r.bound, v.running.begun); running = r }

pub ruleset wording = (run_start, names_over, words_start, words_over)

-- ---- the first character, and the answer

module _ (d : List ℕ) (at : ℕ) where
  pub start_over : length d ≤ at → false ≡ starts is_name_start (drop at d)
  start_over h = sym (rw (drop_end d at h) (starts_nil is_name_start))

  pub start_low : at < length d → get_or d at 0 < 0x80 → {k : Bool} → k ≡ is_name_start (get_or d at 0)
      → k ≡ starts is_name_start (drop at d)
  start_low h l g = g ∙ sym (rw (drop_step d at h) (starts_low is_name_start _ _ l))

  module _ {r : Option (ℕ × ℕ)} (q : r ≡ sequence_at d at) where
    pub start_point : {c e : ℕ} → r ≡ Some (c, e) → {k : Bool} → k ≡ is_name_start c → k ≡ starts is_name_start (drop at d)
    start_point f g = g ∙ sym (point_starts d at q is_name_start f)

    pub start_bad : r ≡ None → false ≡ starts is_name_start (drop at d)
    start_bad b = sym (bad_starts d at q is_name_start b)

  module _ {x : Bool} (q : x ≡ starts is_name_start (drop at d)) where
    pub name_ends : x ≡ true → {e : ℕ} → e ≡ name_end d at → Some e ≡ name_at d at
    unfolding name_at name_of name_end
    name_ends y f = ap Some f ∙ sym (rw (sym q ∙ y))

    pub name_fault : x ≡ false → None ≡ name_at d at
    unfolding name_at name_of
    name_fault n = sym (rw (sym q ∙ n))

pub ruleset answering = (start_over, start_low, start_point, start_bad, name_ends, name_fault)
