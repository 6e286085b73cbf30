-- The test of four bytes by the cells of a row is the table's: `formed` says whether the bytes that a first byte asks for are a sequence of
-- the table. In order: the rows by their cells; the test by the size; bytes that are missing; the character and its place.
use mathlib.Core.Path.{◌≡◌, refl, sym, ap, ◌∙◌}
use mathlib.Core.Bool.{Bool, true, false, cond, not, ◌&&◌, ◌||◌, false≢true, and-false, and-true, and_assoc, or-false}
use mathlib.Core.List.{List, [], ◌∷◌}
use mathlib.Core.Option.{Option, none, some}
use Prim.Native.Nat.{ℕ, suc, ◌+◌, ◌≤◌, ◌<◌}
use native.Mathlib.Omega.{arith}
use borrow.Author.Tests.{le-leb, lt-leb, le-ltb, leb-true, ltb-true, ltb-false, ne_eqb}
use lib.Dec.{eqb, leb, ltb}
use lib.ListN.{length, get_or, take, drop}
use lib.Seq.{get_or-drop}
use Rattle.xml.specs.Range.{Range, ◌–◌, inside}
use Rattle.xml.specs.Utf8.{utf8, Row, rows, size_of, later, follows, by_row, well_formed}
use Rattle.xml.specs.Character.{guess, value_of}
use Rattle.xml.proofs.Bools.{and_left, and_right, inside_bounds}
use Rattle.xml.proofs.Utf8.{size_one, size_two, size_three, size_four}
use Rattle.xml.proofs.Character.{formed_character, unformed_character, character_size, character_nil}
use Rattle.std.specs.Prelude.{Some, None}
use Rattle.utf8.proofs.Place.{drop_step, drop_end}
use Rattle.utf8.specs.Sequence.{seconds, cells_in, cells_of, formed_by, formed, sequence_at}

-- ---- rows of a second byte, in rising order

-- there is a second byte, and it is not 0
abbrev second : Option Range → Bool
second none = false
second (some r) = ltb 0 r.low

-- each row begins from n on, after the rows before it
abbrev rising : ℕ → List Row → Bool
rising n [] = true
rising n (r ∷ rs) =
    leb n r.first.low && leb r.first.low r.first.high && second r.second && rising (suc r.first.high) rs

-- the row's ranges are not empty, and b is a second byte of it
abbrev hit : List ℕ → ℕ → Bool
hit row b = not (ltb (get_or row 1 0) (get_or row 0 0)) && (leb (get_or row 2 0) b && leb b (get_or row 3 0))

module _ (n : ℕ) (r : Row) (rs : List Row) (up : rising n (r ∷ rs) ≡ true) where
  abbrev ordered : Bool
  ordered = leb n r.first.low && leb r.first.low r.first.high

  is_ordered : ordered ≡ true
  is_ordered = and_left ordered _ (and_left (ordered && second r.second) _ up)

  from_low : n ≤ r.first.low
  from_low = leb-true _ _ (and_left (leb n r.first.low) _ is_ordered)

  low_high : r.first.low ≤ r.first.high
  low_high = leb-true _ _ (and_right (leb n r.first.low) _ is_ordered)

  has_second : second r.second ≡ true
  has_second = and_right ordered _ (and_left (ordered && second r.second) _ up)

  then_rising : rising (suc r.first.high) rs ≡ true
  then_rising = and_right (ordered && second r.second) _ up

module _ (a : ℕ) where
  row_before : (n : ℕ) (rs : List Row) (w : List ℕ) → rising n rs ≡ true → a < n → by_row rs a w ≡ false
  row_before n [] w up h = refl
  row_before n (r ∷ rs) w up h =
      let l = from_low n r rs up in
      let m = low_high n r rs up in
      rw (lt-leb r.first.low a (omega arith)) (row_before (suc r.first.high) rs w (then_rising n r rs up) (omega arith))

  row_cells : (n : ℕ) (rs : List Row) (b : ℕ) (v : List ℕ) → rising n rs ≡ true
      → by_row rs a (b ∷ v) ≡ hit (cells_in rs a) b && later v
  row_cells n [] b v up = refl
  row_cells n (r ∷ rs) b v up =
      go (inside r.first a) refl r.second (has_second n r rs up) (row_cells (suc r.first.high) rs b v (then_rising n r rs up))
    where
      go : (x : Bool) → inside r.first a ≡ x → (q : Option Range) → second q ≡ true
          → by_row rs a (b ∷ v) ≡ hit (cells_in rs a) b && later v
          → x && follows q (b ∷ v) || by_row rs a (b ∷ v)
          ≡ hit (cond x (r.first.low ∷ r.first.high ∷ seconds q) (cells_in rs a)) b && later v
      go true e none k rec = absurd (false≢true k)
      go true e (some q) k rec =
          let (l, h) = inside_bounds r.first a e in
          let none_later = row_before (suc r.first.high) rs (b ∷ v) (then_rising n r rs up) (omega arith) in
          rw (none_later, le-ltb r.first.high r.first.low (omega arith)) (or-false _)
      go false e q k rec = rec

  hit_zero : (n : ℕ) (rs : List Row) → rising n rs ≡ true → hit (cells_in rs a) 0 ≡ false
  hit_zero n [] up = refl
  hit_zero n (r ∷ rs) up =
      go (inside r.first a) r.second (has_second n r rs up) (hit_zero (suc r.first.high) rs (then_rising n r rs up))
    where
      go : (x : Bool) (q : Option Range) → second q ≡ true → hit (cells_in rs a) 0 ≡ false
          → hit (cond x (r.first.low ∷ r.first.high ∷ seconds q) (cells_in rs a)) 0 ≡ false
      go true none k rec = absurd (false≢true k)
      go true (some q) k rec =
          rw (lt-leb q.low 0 (ltb-true 0 q.low k)) (and-false (not (ltb r.first.high r.first.low)))
      go false q k rec = rec

-- ---- the bytes that the first byte asks for

abbrev is_later : ℕ → Bool
is_later b = inside (0x80 – 0xBF) b

high : List Row
unfolding rows
high = drop 1 rows

module _ (a : ℕ) (h : 0x80 ≤ a) where
  high_cells : cells_in high a ≡ cells_of a
  unfolding cells_of rows high
  high_cells = rw (le-leb 0 a (omega arith), lt-leb a 0x7F h)

  high_row : (b : ℕ) (v : List ℕ) → by_row rows a (b ∷ v) ≡ hit (cells_of a) b && later v
  unfolding rows high
  high_row b v =
      rw (le-leb 0 a (omega arith), lt-leb a 0x7F h) (row_cells a 0x80 high b v refl ∙ rw high_cells)

  missing : hit (cells_of a) 0 ≡ false
  unfolding high rows
  missing = rw (← high_cells) (hit_zero a 0x80 high refl)

  module _ (n : ℕ) (e : size_of a ≡ n) (l : 2 ≤ n) where
    formed_high : (b c d : ℕ) → formed a b c d ≡ hit (cells_of a) b && (ltb n 3 || is_later c && (ltb n 4 || is_later d))
    unfolding formed formed_by
    formed_high b c d = rw (e, le-ltb n 2 l) (sym (and_assoc (not (ltb (get_or (cells_of a) 1 0) (get_or (cells_of a) 0 0))) _ _))

    well_high : (b : ℕ) (v : List ℕ) → well_formed (a ∷ b ∷ v) ≡ eqb (suc (suc (length v))) n && (hit (cells_of a) b && later v)
    unfolding well_formed
    well_high b v = rw (e, high_row b v)

    formed_alone : formed a 0 0 0 ≡ well_formed (a ∷ [])
    unfolding well_formed
    formed_alone = formed_high 0 0 0 ∙ rw (missing, e, ne_eqb 1 n (λ q. omega arith))

  two_taken : size_of a ≡ 2 → (w : List ℕ) → formed a (get_or w 0 0) (get_or w 1 0) (get_or w 2 0) ≡ well_formed (take 2 (a ∷ w))
  two_taken e [] = formed_alone 2 e (omega arith)
  two_taken e (b ∷ v) = formed_high 2 e (omega arith) b _ _ ∙ sym (well_high 2 e (omega arith) b [])

  three_taken : size_of a ≡ 3 → (w : List ℕ) → formed a (get_or w 0 0) (get_or w 1 0) (get_or w 2 0) ≡ well_formed (take 3 (a ∷ w))
  three_taken e [] = formed_alone 3 e (omega arith)
  three_taken e (b ∷ []) =
      formed_high 3 e (omega arith) b 0 0 ∙ and-false (hit (cells_of a) b) ∙ sym (well_high 3 e (omega arith) b [])
  three_taken e (b ∷ c ∷ v) = formed_high 3 e (omega arith) b c _ ∙ sym (well_high 3 e (omega arith) b (c ∷ []))

  four_taken : size_of a ≡ 4 → (w : List ℕ) → formed a (get_or w 0 0) (get_or w 1 0) (get_or w 2 0) ≡ well_formed (take 4 (a ∷ w))
  four_taken e [] = formed_alone 4 e (omega arith)
  four_taken e (b ∷ []) =
      formed_high 4 e (omega arith) b 0 0 ∙ and-false (hit (cells_of a) b) ∙ sym (well_high 4 e (omega arith) b [])
  four_taken e (b ∷ c ∷ []) =
      formed_high 4 e (omega arith) b c 0
      ∙ rw (and-false (is_later c)) (and-false (hit (cells_of a) b))
      ∙ sym (well_high 4 e (omega arith) b (c ∷ []))
  four_taken e (b ∷ c ∷ d ∷ v) =
      formed_high 4 e (omega arith) b c d
      ∙ ap (λ (x : Bool). hit (cells_of a) b && (is_later c && x)) (sym (and-true (is_later d)))
      ∙ sym (well_high 4 e (omega arith) b (c ∷ d ∷ []))

one_taken : (a : ℕ) → a < 0x80 → (b c d : ℕ) (w : List ℕ) → formed a b c d ≡ well_formed (take 1 (a ∷ w))
unfolding formed formed_by cells_of well_formed rows
one_taken a h b c d w = rw (size_one a h, le-leb 0 a (omega arith), le-leb a 0x7F (omega arith))

-- ---- the character

pub formed_taken : (a : ℕ) (w : List ℕ) → formed a (get_or w 0 0) (get_or w 1 0) (get_or w 2 0) ≡ well_formed (take (size_of a) (a ∷ w))
formed_taken a w = go (ltb a 0x80) (ltb a 0xE0) (ltb a 0xF0) refl refl refl
  where
    go : (x y z : Bool) → ltb a 0x80 ≡ x → ltb a 0xE0 ≡ y → ltb a 0xF0 ≡ z
        → formed a (get_or w 0 0) (get_or w 1 0) (get_or w 2 0) ≡ well_formed (take (size_of a) (a ∷ w))
    go true y z p q r = let h = ltb-true a 0x80 p in rw (size_one a h) (one_taken a h _ _ _ w)
    go false true z p q r =
        let h = ltb-false a 0x80 p in
        let e = size_two a h (ltb-true a 0xE0 q) in
        rw e (two_taken a h e w)
    go false false true p q r =
        let e = size_three a (ltb-false a 0xE0 q) (ltb-true a 0xF0 r) in
        rw e (three_taken a (ltb-false a 0x80 p) e w)
    go false false false p q r =
        let e = size_four a (ltb-false a 0xF0 r) in
        rw e (four_taken a (ltb-false a 0x80 p) e w)

-- ---- `sequence_at`

pub point_end : (d : List ℕ) (at : ℕ) → length d ≤ at → None ≡ sequence_at d at
unfolding sequence_at
point_end d at h = sym (rw (drop_end d at h, character_nil))

-- the bytes at the place and after it are those of what is left
module _ (d : List ℕ) (at : ℕ) (h : at < length d) {b c e : ℕ} (p : b ≡ get_or d (at + 1) 0) (q : c ≡ get_or d (at + 2) 0)
    (r : e ≡ get_or d (at + 3) 0) where
  abbrev first : ℕ
  first = get_or d at 0

  abbrev rest : List ℕ
  rest = drop (at + 1) d

  after_at : (k : ℕ) → get_or rest k 0 ≡ get_or d (at + (k + 1)) 0
  after_at k =
      let i : at + 1 + k ≡ at + (k + 1) = omega arith in
      get_or-drop (at + 1) d k 0 ∙ ap (λ (i : ℕ). get_or d i 0) i

  taken : formed first b c e ≡ well_formed (take (size_of first) (first ∷ rest))
  taken = cc (formed_taken first rest, after_at 0, after_at 1, after_at 2)

  value_rest : value_of first b c e ≡ guess (first ∷ rest)
  unfolding guess
  value_rest = cc (after_at 0, after_at 1, after_at 2)

  module _ {x : Bool} (f : x ≡ formed first b c e) where
    pub point_bad : x ≡ false → None ≡ sequence_at d at
    unfolding sequence_at
    point_bad n = sym (rw (drop_step d at h, unformed_character (first ∷ rest) (sym taken ∙ sym f ∙ n)))

    pub point_good : x ≡ true → {v n : ℕ} → v ≡ value_of first b c e → n ≡ size_of first → Some (v, at + n) ≡ sequence_at d at
    unfolding sequence_at
    point_good y {v} {n} k l =
        let g = formed_character (first ∷ rest) (sym taken ∙ sym f ∙ y) in
        let w : length (utf8 (guess (first ∷ rest))) ≡ n = character_size (first ∷ rest) _ g ∙ sym l in
        sym (rw (drop_step d at h, g, w, k, value_rest))

pub ruleset pointing = (point_end, point_bad, point_good)
