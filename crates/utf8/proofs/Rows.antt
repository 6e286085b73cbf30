-- The tests by which one sequence is read: the row of a first byte, sizes, values, [2] Char by its borders. Each law is one way through the
-- code of sequence.rt.
use mathlib.Core.Path.{◌≡◌, refl, sym, ap, ◌∙◌}
use mathlib.Core.Bool.{Bool, true, false, cond, not, ◌&&◌, ◌||◌}
use mathlib.Core.List.{List, [], ◌∷◌}
use Prim.Native.Nat.{ℕ, zero, suc, ◌+◌, ◌-◌, ◌*◌, ◌%◌, ◌≤◌, ◌<◌}
use native.Mathlib.Nat.{le_of_suc-le-suc, not-suc-le-zero}
use native.Mathlib.Numerals.{add-one}
use native.Mathlib.Omega.{arith}
use borrow.Author.Tests.{le-leb, lt-leb, lt-ltb, le-ltb, not-true, not-false}
use lib.Dec.{leb, ltb}
use lib.ListN.{length, get_or, drop, get_or-eq_default}
use Rattle.xml.specs.Utf8.{Row, rows, size_of}
use Rattle.xml.specs.Character.{value_of}
use Rattle.xml.proofs.Utf8.{size_one, size_two, size_three, size_four}
use Rattle.xml.specs.Range.{inside, ◌–◌}
use Rattle.utf8.specs.Sequence.{cell_rows, cells_in, cells_of, formed_by, formed}

-- ---- `byte_after`

pub byte_none : (s : List ℕ) (at k : ℕ) → length s - at ≤ k → 0 ≡ get_or s (at + k) 0
byte_none s at k h = sym (get_or-eq_default s 0 {n = at + k} (omega arith))

pub ruleset byting = (byte_none)

-- ---- `size_of`

pub one_byte : {a : ℕ} → a < 0x80 → 1 ≡ size_of a
one_byte {a} h = sym (size_one a h)

pub two_bytes : {a : ℕ} → 0x80 ≤ a → a < 0xE0 → 2 ≡ size_of a
two_bytes {a} l h = sym (size_two a l h)

pub three_bytes : {a : ℕ} → 0xE0 ≤ a → a < 0xF0 → 3 ≡ size_of a
three_bytes {a} l h = sym (size_three a l h)

pub four_bytes : {a : ℕ} → 0xF0 ≤ a → 4 ≡ size_of a
four_bytes {a} l = sym (size_four a l)

pub ruleset sizing = (one_byte, two_bytes, three_bytes, four_bytes)

-- ---- `value_of`

module _ (a b c d : ℕ) where
  pub value_one : a < 0x80 → a ≡ value_of a b c d
  unfolding value_of
  value_one h = sym (rw (lt-ltb a 0x80 h))

  pub value_two : 0x80 ≤ a → a < 0xE0 → a % 0x20 * 0x40 + b % 0x40 ≡ value_of a b c d
  unfolding value_of
  value_two l h = sym (rw (le-ltb a 0x80 l, lt-ltb a 0xE0 h))

  pub value_three : 0xE0 ≤ a → a < 0xF0 → a % 0x10 * 0x1000 + b % 0x40 * 0x40 + c % 0x40 ≡ value_of a b c d
  unfolding value_of
  value_three l h = sym (rw (le-ltb a 0x80 (omega arith), le-ltb a 0xE0 l, lt-ltb a 0xF0 h))

  pub value_four : 0xF0 ≤ a → a % 8 * 0x40000 + b % 0x40 * 0x1000 + c % 0x40 * 0x40 + d % 0x40 ≡ value_of a b c d
  unfolding value_of
  value_four l = sym (rw (le-ltb a 0x80 (omega arith), le-ltb a 0xE0 (omega arith), le-ltb a 0xF0 l))

pub ruleset valuing = (value_one, value_two, value_three, value_four)

-- ---- `is_later`

pub later_from : {b : ℕ} → 0x80 ≤ b → leb b 0xBF ≡ inside (0x80 – 0xBF) b
later_from {b} h = sym (rw (le-leb 0x80 b h))

pub later_under : {b : ℕ} → b < 0x80 → false ≡ inside (0x80 – 0xBF) b
later_under {b} h = sym (rw (lt-leb 0x80 b h))

pub ruleset latering = (later_from, later_under)

-- ---- `row_of`: the rows that are left are asked

cells_step : (rs : List Row) (i a : ℕ) → i < length rs
    → cells_in (drop i rs) a
    ≡ cond (leb (get_or (get_or (cell_rows rs) i []) 0 0) a && leb a (get_or (get_or (cell_rows rs) i []) 1 0)) (get_or (cell_rows rs) i [])
    (cells_in (drop (suc i) rs) a)
cells_step [] i a h = absurd (not-suc-le-zero h)
cells_step (r ∷ rs) zero a h = refl
cells_step (r ∷ rs) (suc i) a h = cells_step rs i a (le_of_suc-le-suc h)

pub record Rowing (a i : ℕ) : Type 0 where
  pub in_rows : i ≤ 9
  pub same : cells_in (drop i rows) a ≡ cells_of a

pub row_start : {a : ℕ} → Rowing a 0
unfolding cells_of
row_start = record { in_rows = omega arith; same = refl }

module _ {a i : ℕ} (v : Rowing a i) (h : i < 9) where
  pub row_here : get_or (get_or (cell_rows rows) i []) 0 0 ≤ a → a ≤ get_or (get_or (cell_rows rows) i []) 1 0
      → get_or (cell_rows rows) i [] ≡ cells_of a
  unfolding rows
  row_here l m = sym (cells_step rows i a h ∙ rw (le-leb _ _ l, le-leb _ _ m)) ∙ v.same

  pub row_under : a < get_or (get_or (cell_rows rows) i []) 0 0 → Rowing a (i + 1)
  unfolding rows
  row_under l =
      record { in_rows = omega arith; same = rw (add-one i) (sym (cells_step rows i a h ∙ rw (lt-leb _ _ l)) ∙ v.same) }

  pub row_over : get_or (get_or (cell_rows rows) i []) 0 0 ≤ a → get_or (get_or (cell_rows rows) i []) 1 0 < a → Rowing a (i + 1)
  unfolding rows
  row_over l m =
      record { in_rows = omega arith; same = rw (add-one i) (sym (cells_step rows i a h ∙ rw (le-leb _ _ l, lt-leb _ _ m)) ∙ v.same) }

pub row_none : {a i : ℕ} → Rowing a i → 9 ≤ i → 1 ∷ 0 ∷ 1 ∷ 0 ∷ [] ≡ cells_of a
unfolding rows
row_none {a} {i} v h =
    let l : i ≤ 9 = v.in_rows in
    let e : i ≡ 9 = omega arith in
    sym (ap (λ (k : ℕ). cells_in (drop k rows) a) e) ∙ v.same

pub ruleset rowing = (row_here, row_under, row_over, row_none)

-- ---- `is_formed`

module _ (a b c d : ℕ) {row : List ℕ} (p : row ≡ cells_of a) where
  by_row : (n : ℕ) → n ≡ size_of a → formed_by n row b c d ≡ formed a b c d
  unfolding formed
  by_row n q = rw (p, q)

  pub formed_none : get_or row 1 0 < get_or row 0 0 → false ≡ formed a b c d
  unfolding formed_by
  formed_none h = sym (rw (lt-ltb _ _ h) at (sym (by_row (size_of a) refl)))

  module _ (h₀ : get_or row 0 0 ≤ get_or row 1 0) {n : ℕ} (q : n ≡ size_of a) where
    pub formed_one : n < 2 → true ≡ formed a b c d
    unfolding formed_by
    formed_one h = sym (rw (le-ltb _ _ h₀, lt-ltb _ _ h)) ∙ by_row n q

    pub formed_under : 2 ≤ n → b < get_or row 2 0 → false ≡ formed a b c d
    unfolding formed_by
    formed_under h l = sym (rw (le-ltb _ _ h₀, le-ltb _ _ h, lt-leb _ _ l)) ∙ by_row n q

    pub formed_over : 2 ≤ n → get_or row 2 0 ≤ b → get_or row 3 0 < b → false ≡ formed a b c d
    unfolding formed_by
    formed_over h l m = sym (rw (le-ltb _ _ h₀, le-ltb _ _ h, le-leb _ _ l, lt-leb _ _ m)) ∙ by_row n q

    module _ (h₁ : 2 ≤ n) (h₂ : get_or row 2 0 ≤ b) (h₃ : b ≤ get_or row 3 0) where
      second : formed_by n row b c d ≡ (ltb n 3 || inside (0x80 – 0xBF) c && (ltb n 4 || inside (0x80 – 0xBF) d))
      unfolding formed_by
      second = rw (le-ltb _ _ h₀, le-ltb _ _ h₁, le-leb _ _ h₂, le-leb _ _ h₃)

      pub formed_two : n < 3 → true ≡ formed a b c d
      formed_two h = sym (second ∙ rw (lt-ltb _ _ h)) ∙ by_row n q

      module _ (h₄ : 3 ≤ n) {x : Bool} (e : x ≡ inside (0x80 – 0xBF) c) where
        pub formed_third : not x ≡ true → false ≡ formed a b c d
        formed_third h = sym (second ∙ rw (le-ltb _ _ h₄, sym e ∙ not-true x h)) ∙ by_row n q

        pub formed_three : not x ≡ false → n < 4 → true ≡ formed a b c d
        formed_three h l = sym (second ∙ rw (le-ltb _ _ h₄, sym e ∙ not-false x h, lt-ltb _ _ l)) ∙ by_row n q

        pub formed_four : not x ≡ false → 4 ≤ n → {y : Bool} → y ≡ inside (0x80 – 0xBF) d → y ≡ formed a b c d
        formed_four h l f = f ∙ sym (second ∙ rw (le-ltb _ _ h₄, sym e ∙ not-false x h, le-ltb _ _ l)) ∙ by_row n q

pub ruleset forming =
    (formed_none, formed_one, formed_under, formed_over, formed_two, formed_third, formed_three, formed_four)
