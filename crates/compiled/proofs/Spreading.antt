-- The last pass over the rows: those before i are done.
-- And rows by number become the rows of the compiled list.
use mathlib.Core.Path.{◌≡◌, refl, sym, ap, ◌∙◌}
use mathlib.Core.Bool.{Bool, true, false, ◌&&◌, ◌||◌, true≢false}
use mathlib.Core.List.{List, [], ◌∷◌, map}
use Prim.Native.Nat.{ℕ, zero, suc, ◌+◌, ◌-◌, ◌*◌, ◌/◌, ◌%◌, ◌≤◌, ◌<◌}
use native.Mathlib.Omega.{arith}
use borrow.Author.Tests.{eq-eqb, ne_eqb, ltb-true, ltb-false}
use lib.ListN.{length, get_or, drop}
use lib.Seq.{get_or-take, get_or-drop, ext_get_or}
use lib.Dec.{eqb, ltb}
use Rattle.xml.specs.Productions.{same}
use Rattle.paths.specs.Path.{Test, any, named, Step, Path, All, none, more}
use Rattle.compiled.specs.Bits.{step_bits, column, passes, passes_any, fit_of, other_fit}
use Rattle.lookup.specs.Names.{Named, place_of, names_of}
use Rattle.compiled.specs.Compiled.{rows_of}
use Rattle.compiled.specs.Sizes.{Sized}
use Rattle.compiled.specs.Built.{number_of, number_row, number_rows}
use Rattle.compiled.specs.Spread.{Spreadable, Spread}
use Rattle.xml.proofs.Same.{same_equal, same_refl}
use Rattle.compiled.proofs.Alls.{all_map}
use Rattle.lookup.proofs.Places.{name_at, place_least, place_says, place_once}
use Rattle.compiled.proofs.Firsts.{HasTest, names_have, names_once, names_few}
use Rattle.compiled.proofs.Bits.{bits_both, column_get, column_alike}
use Rattle.compiled.proofs.NameRows.{row_list, rows_long, rows_get, name_row, past_row}
use Rattle.compiled.proofs.Sizes.{rows_below}
use Rattle.compiled.proofs.Listed.{listed_entry}
use Rattle.compiled.proofs.Numbers.{row_long, numbers_long}

-- ---- `spread`

pub record Spreading (l l' : List ℕ) (i : ℕ) : Type 0 where
  pub begun : 32 ≤ i
  pub i_in : i ≤ 16416
  pub long : length l' ≡ 16416
  pub fits : (j : ℕ) → 32 ≤ j → j < 16416 → get_or l j 0 + get_or l (j % 32) 0 < 65536
  pub first : (j : ℕ) → j < 32 → get_or l' j 0 ≡ get_or l j 0
  pub past : (j : ℕ) → 32 ≤ j → j < i → get_or l' j 0 ≡ get_or l j 0 + get_or l (j % 32) 0
  pub left : (j : ℕ) → i ≤ j → get_or l' j 0 ≡ get_or l j 0

-- ---- the rows of the compiled list, by number

module _ (ps : List Path) (s : Sized ps) where
  abbrev ns : List Named
  ns = names_of ps

  abbrev num : Step → ℕ
  num x = number_of ns x.test

  few : length ns ≤ 512
  few = names_few ps s.few s.short

  -- a fact of every test, for the steps of ps
  alike : (f g : Test → Bool) → ((t : Test) → HasTest ns t → f t ≡ g t)
      → column (step_bits (λ x. f x.test)) ps ≡ column (step_bits (λ x. g x.test)) ps
  alike f g h =
      column_alike (λ x. f x.test) (λ x. g x.test) ps (all_map (λ p a. all_map (λ x t. h x.test t) a) (names_have ps))

  first_row : other_fit ps ≡ number_row ns ps 0
  unfolding other_fit number_row
  first_row = alike passes_any (λ t. eqb (number_of ns t) 0) test
    where
      test : (t : Test) → HasTest ns t → passes_any t ≡ eqb (number_of ns t) 0
      test any h = refl
      test (named m) h = sym (ne_eqb (place_of ns m) 0 h)

  -- the steps of number 0 or k
  abbrev either : ℕ → Test → Bool
  either k t = eqb (number_of ns t) 0 || eqb (number_of ns t) k

  named_row : (k : ℕ) → k < length ns → fit_of ps (name_at ns k) ≡ column (step_bits (λ x. either (suc k) x.test)) ps
  unfolding fit_of
  named_row k l = alike (passes (name_at ns k)) (either (suc k)) test
    where
      both : (m : List ℕ) (b : Bool) → same m (name_at ns k) ≡ b → b ≡ eqb (place_of ns m) (suc k)
      both m true e =
          let q = same_equal m (name_at ns k) e in
          sym (eq-eqb (place_of ns m) (suc k) (ap (place_of ns) q ∙ place_once (names_once ps) k l))
      both m false e =
          sym (ne_eqb (place_of ns m) (suc k) (λ p.
          let q = (place_says ns m k p).1 in
          let z : ◌≡◌ {A = Bool} true false = sym (same_refl m) ∙ ap (same m) (sym q) ∙ e in
          true≢false z))

      test : (t : Test) → HasTest ns t → passes (name_at ns k) t ≡ either (suc k) t
      test any h = refl
      test (named m) h = rw (ne_eqb (place_of ns m) 0 h) (both m (same m (name_at ns k)) refl)

  other_row : (k : ℕ) → length ns ≤ k → other_fit ps ≡ column (step_bits (λ x. either (suc k) x.test)) ps
  unfolding other_fit
  other_row k l = alike passes_any (either (suc k)) test
    where
      test : (t : Test) → HasTest ns t → passes_any t ≡ either (suc k) t
      test any h = refl
      test (named m) h =
          let z = place_least ns m in
          rw (ne_eqb (place_of ns m) 0 h) (sym (ne_eqb (place_of ns m) (suc k) (λ e. omega arith)))

  row_either : (k : ℕ) → k < 512 → get_or (row_list ps) (suc k) [] ≡ column (step_bits (λ x. either (suc k) x.test)) ps
  row_either k l = go (ltb k (length ns)) refl
    where
      go : (b : Bool) → ltb k (length ns) ≡ b → get_or (row_list ps) (suc k) [] ≡ column (step_bits (λ x. either (suc k) x.test)) ps
      go true e = let h = ltb-true k (length ns) e in name_row ps s k h ∙ named_row k h
      go false e = let h = ltb-false k (length ns) e in past_row ps s k h l ∙ other_row k h

  sum_bits : (k : ℕ) (p : Path) → step_bits (λ x. either (suc k) x.test) p
      ≡ step_bits (λ x. eqb (num x) 0) p + step_bits (λ x. eqb (num x) (suc k)) p
  sum_bits k p = bits_both (λ x. eqb (num x) 0) (λ x. eqb (num x) (suc k)) p.steps (apart p.steps)
    where
      one : (n : ℕ) → eqb n 0 && eqb n (suc k) ≡ false
      one zero = rw (ne_eqb 0 (suc k) (λ e. omega arith))
      one (suc n) = rw (ne_eqb (suc n) 0 (λ e. omega arith))

      apart : (ss : List Step) → All (λ x. eqb (num x) 0 && eqb (num x) (suc k) ≡ false) ss
      apart [] = none
      apart (x ∷ ss) = more (one (num x)) (apart ss)

  sum_row : (k i : ℕ) → get_or (column (step_bits (λ x. either (suc k) x.test)) ps) i 0
      ≡ get_or (number_row ns ps (suc k)) i 0 + get_or (number_row ns ps 0) i 0
  unfolding number_row
  sum_row k i = rw (column_get _ ps i, column_get _ ps i, column_get _ ps i) (go ps i)
    where
      go : (ps' : List Path) (i : ℕ) → get_or (map (step_bits (λ x. either (suc k) x.test)) ps') i 0
          ≡ get_or (map (step_bits (λ x. eqb (num x) (suc k))) ps') i 0 + get_or (map (step_bits (λ x. eqb (num x) 0)) ps') i 0
      go [] i = refl
      go (p ∷ ps') zero = let z = sum_bits k p in omega arith
      go (p ∷ ps') (suc i) = go ps' i

  numbers_entry : (k p : ℕ) → k < 513 → p < 32 → get_or (number_rows ps) (32 * k + p) 0 ≡ get_or (number_row ns ps k) p 0
  unfolding number_rows
  numbers_entry k p l h = listed_entry (number_row ns ps) (row_long ns ps s.few) 513 k p l h

  rows_entry : (k p : ℕ) → k < 513 → p < 32 → get_or (rows_of ps) (32 * k + p) 0 ≡ get_or (get_or (row_list ps) k []) p 0
  rows_entry k p l h =
      sym (get_or-drop (32 * k) (rows_of ps) p 0)
      ∙ sym (get_or-take 32 (drop (32 * k) (rows_of ps)) p 0 h)
      ∙ ap (λ (r : List ℕ). get_or r p 0) (rows_get ps s k l)

  -- the first row, and the others
  first_entry : (p : ℕ) → p < 32 → get_or (rows_of ps) p 0 ≡ get_or (number_rows ps) p 0
  first_entry p h =
      let z : p ≡ 32 * 0 + p = omega arith in
      ap (λ (i : ℕ). get_or (rows_of ps) i 0) z
      ∙ rows_entry 0 p (omega arith) h
      ∙ ap (λ (r : List ℕ). get_or r p 0) first_row
      ∙ sym (numbers_entry 0 p (omega arith) h)
      ∙ ap (λ (i : ℕ). get_or (number_rows ps) i 0) (sym z)

  other_entry : (k p : ℕ) → k < 512 → p < 32
      → get_or (rows_of ps) (32 * suc k + p) 0 ≡ get_or (number_rows ps) (32 * suc k + p) 0 + get_or (number_rows ps) p 0
  other_entry k p l h =
      let z : 32 * 0 + p ≡ p = omega arith in
      rows_entry (suc k) p (omega arith) h
      ∙ ap (λ (r : List ℕ). get_or r p 0) (row_either k l)
      ∙ sum_row k p
      ∙ cc (numbers_entry (suc k) p (omega arith) h, numbers_entry 0 p (omega arith) h, z)

  other_at : (i : ℕ) → 32 ≤ i → i < 16416 → get_or (rows_of ps) i 0 ≡ get_or (number_rows ps) i 0 + get_or (number_rows ps) (i % 32) 0
  other_at i l h =
      let z : i ≡ 32 * suc (i / 32 - 1) + i % 32 = omega arith in
      let e = other_entry (i / 32 - 1) (i % 32) (omega arith) (omega arith) in
      ap (λ (j : ℕ). get_or (rows_of ps) j 0) z ∙ e ∙ ap (λ (j : ℕ). get_or (number_rows ps) j 0 + get_or (number_rows ps) (i % 32) 0)
      (sym z)

  pub numbers_spreadable : Spreadable (number_rows ps)
  numbers_spreadable =
      record { long = numbers_long ps s.few; fits = λ i l h. rw (← other_at i l h) (rows_below ps s i) }

  pub numbers_spread : {l : List ℕ} → Spread (number_rows ps) l → l ≡ rows_of ps
  numbers_spread {l} v =
      ext_get_or 0 l (rows_of ps) (v.long ∙ sym (rows_long ps s)) (λ i h. go i (rw v.long at h) (ltb i 32) refl)
    where
      go : (i : ℕ) → i < 16416 → (b : Bool) → ltb i 32 ≡ b → get_or l i 0 ≡ get_or (rows_of ps) i 0
      go i h true e = let k = ltb-true i 32 e in v.first i k ∙ sym (first_entry i k)
      go i h false e = let k = ltb-false i 32 e in v.other i k h ∙ sym (other_at i k h)
