-- The class of a code point, as the table has it and as the ranges give it. In order: a bit of the table; what goes on with a name; the
-- class by the two tests.
use mathlib.Core.Path.{◌≡◌, refl, sym, ap, ◌∙◌}
use mathlib.Core.Bool.{Bool, true, false, cond}
use mathlib.Core.List.{List, ◌++◌}
use Prim.Native.Nat.{ℕ, zero, suc, ◌+◌, ◌*◌, ◌/◌, ◌%◌, ◌^◌, ◌<◌}
use native.Mathlib.Nat.{le_of_suc-le-suc, not-suc-le-zero, add-zero, zero-add, add-suc, suc-add}
use native.Mathlib.Omega.{arith}
use lib.Dec.{eqb}
use lib.ListN.{length, get_or, get_or-append}
use lib.Pow.{shr-shr}
use lib.Seq.{get_or-append-add}
use Rattle.xml.specs.Productions.{is_name_start, is_name_more, is_name}
use Rattle.points.specs.Class.{class_of, bit, bits_from, bytes_from, class_table, bit_at}

-- ---- a bit of the table

low : (b : Bool) (y : ℕ) → (bit b + 2 * y) / 1 % 2 ≡ bit b
low true y = omega arith
low false y = omega arith

rest : (b : Bool) (y : ℕ) → (bit b + 2 * y) / 2 ≡ y
rest true y = omega arith
rest false y = omega arith

-- bit j of some bits is that of the j-th code point
bits_at : (f : ℕ → Bool) (c n j : ℕ) → j < n → bits_from f c n / 2 ^ j % 2 ≡ bit (f (c + j))
bits_at f c zero j h = absurd (not-suc-le-zero h)
bits_at f c (suc n) zero h = low (f c) (bits_from f (suc c) n) ∙ ap (λ (x : ℕ). bit (f x)) (sym (add-zero c))
bits_at f c (suc n) (suc j) h =
    let x = bit (f c) + 2 * bits_from f (suc c) n in
    let e : x / 2 ^ suc j ≡ bits_from f (suc c) n / 2 ^ j
    = ap (λ (k : ℕ). x / 2 ^ k) (let z : suc j ≡ 1 + j = omega arith in z) ∙ sym (shr-shr x 1 j)
    ∙ ap (λ (y : ℕ). y / 2 ^ j) (rest (f c) (bits_from f (suc c) n)) in
    ap (λ (y : ℕ). y % 2) e ∙ bits_at f (suc c) n j (le_of_suc-le-suc h) ∙ ap (λ (y : ℕ). bit (f y)) (suc-add c j ∙ sym (add-suc c j))

bytes_at : (f : ℕ → Bool) (c n k : ℕ) → k < n → get_or (bytes_from f c n) k 0 ≡ bits_from f (c + 8 * k) 8
bytes_at f c zero k h = absurd (not-suc-le-zero h)
bytes_at f c (suc n) zero h = ap (λ (x : ℕ). bits_from f x 8) (let z : c ≡ c + 8 * zero = omega arith in z)
bytes_at f c (suc n) (suc k) h =
    bytes_at f (c + 8) n k (le_of_suc-le-suc h)
    ∙ ap (λ (x : ℕ). bits_from f x 8) (let z : c + 8 + 8 * k ≡ c + 8 * suc k = omega arith in z)

bytes_length : (f : ℕ → Bool) (c n : ℕ) → length (bytes_from f c n) ≡ n
bytes_length f c zero = refl
bytes_length f c (suc n) = ap suc (bytes_length f (c + 8) n)

-- bit c % 8 of byte c / 8 is that of c
byte_bit : (f : ℕ → Bool) (n c : ℕ) → c / 8 < n → get_or (bytes_from f 0 n) (c / 8) 0 / 2 ^ (c % 8) % 2 ≡ bit (f c)
byte_bit f n c h =
    ap (λ (x : ℕ). x / 2 ^ (c % 8) % 2) (bytes_at f 0 n (c / 8) h)
    ∙ bits_at f (0 + 8 * (c / 8)) 8 (c % 8) (omega arith)
    ∙ ap (λ (x : ℕ). bit (f x)) (let z : 0 + 8 * (c / 8) + c % 8 ≡ c = omega arith in z)

pub test_bit : (b : Bool) → eqb (bit b) 1 ≡ b
test_bit true = refl
test_bit false = refl

module _ {t : List ℕ} (e : t ≡ class_table) {c : ℕ} (h : c < 768) {k : ℕ} where
  pub start_bit : k ≡ bit_at t 0 c → eqb k 1 ≡ is_name_start c
  unfolding bit_at class_table
  start_bit q =
      let l = bytes_length is_name_start 0 96 in
      let a : get_or (bytes_from is_name_start 0 96 ++ bytes_from is_name 0 96) (0 + c / 8) 0
      ≡ get_or (bytes_from is_name_start 0 96) (c / 8) 0
      = ap (λ (x : ℕ). get_or (bytes_from is_name_start 0 96 ++ bytes_from is_name 0 96) x 0) (zero-add (c / 8))
      ∙ get_or-append (bytes_from is_name_start 0 96) (bytes_from is_name 0 96) 0 (c / 8) (omega arith) in
      ap (λ (x : ℕ). eqb x 1)
      (q
      ∙ ap (λ (l : List ℕ). get_or l (0 + c / 8) 0 / 2 ^ (c % 8) % 2) e
      ∙ ap (λ (x : ℕ). x / 2 ^ (c % 8) % 2) a
      ∙ byte_bit is_name_start 96 c (omega arith))
      ∙ test_bit (is_name_start c)

  pub more_bit : k ≡ bit_at t 96 c → eqb k 1 ≡ is_name c
  unfolding bit_at class_table
  more_bit q =
      let a : get_or (bytes_from is_name_start 0 96 ++ bytes_from is_name 0 96) (96 + c / 8) 0 ≡ get_or (bytes_from is_name 0 96) (c / 8) 0
      = ap (λ (x : ℕ). get_or (bytes_from is_name_start 0 96 ++ bytes_from is_name 0 96) (x + c / 8) 0)
      (sym (bytes_length is_name_start 0 96))
      ∙ get_or-append-add (bytes_from is_name_start 0 96) (bytes_from is_name 0 96) (c / 8) 0 in
      ap (λ (x : ℕ). eqb x 1)
      (q
      ∙ ap (λ (l : List ℕ). get_or l (96 + c / 8) 0 / 2 ^ (c % 8) % 2) e
      ∙ ap (λ (x : ℕ). x / 2 ^ (c % 8) % 2) a
      ∙ byte_bit is_name 96 c (omega arith))
      ∙ test_bit (is_name c)

-- ---- a name goes on with what starts one, and with what [4a] adds

module _ (c : ℕ) {x : Bool} (e : x ≡ is_name_start c) where
  pub more_start : x ≡ true → true ≡ is_name c
  unfolding is_name
  more_start h = sym (rw (sym e ∙ h))

  pub more_other : x ≡ false → {y : Bool} → y ≡ is_name_more c → y ≡ is_name c
  unfolding is_name
  more_other h q = q ∙ sym (rw (sym e ∙ h))

-- ---- the class by the two tests

module _ (c : ℕ) {x : Bool} (e : x ≡ is_name_start c) where
  pub class_two : x ≡ true → 2 ≡ class_of c
  unfolding class_of
  class_two h = sym (rw (sym e ∙ h))

  module _ (h : x ≡ false) {y : Bool} (f : y ≡ is_name c) where
    pub class_one : y ≡ true → 1 ≡ class_of c
    unfolding class_of is_name
    class_one k = sym (rw (sym e ∙ h) (ap (λ (z : Bool). cond z 1 0) (more_is ∙ k)))
      where
        more_is : is_name_more c ≡ y
        more_is = sym (f ∙ rw (sym e ∙ h) refl)

    pub class_zero : y ≡ false → 0 ≡ class_of c
    unfolding class_of is_name
    class_zero k = sym (rw (sym e ∙ h) (ap (λ (z : Bool). cond z 1 0) (more_is ∙ k)))
      where
        more_is : is_name_more c ≡ y
        more_is = sym (f ∙ rw (sym e ∙ h) refl)

pub ruleset classing = (class_two, class_one, class_zero)
