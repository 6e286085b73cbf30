-- The bytes of a word that are no ASCII name characters: what the mask's byte is, by a test of all 256 values of a byte. In order: a test
-- of all numbers below one; the byte; the sums, none of which carries; the word.
use mathlib.Core.Path.{◌≡◌, refl}
use mathlib.Core.Bool.{Bool, true, false, ◌&&◌}
use Prim.Native.Nat.{ℕ, zero, suc, ◌+◌, ◌-◌, ◌*◌, ◌^◌, ◌<◌}
use native.Mathlib.Omega.{arith}
use borrow.Author.Tests.{eqb-true, eqb-false, ltb-true}
use lib.Bits.{bit_and, bit_or, bit_xor}
use lib.Dec.{eqb, ltb}
use Rattle.xml.specs.Productions.{is_name, is_name_start, is_name_more}
use Rattle.xml.proofs.Bools.{and_left, and_right}
use Rattle.words.specs.Word.{bytes_of, flag, marks_of, is_no_name}
use Rattle.words.proofs.Each.{Each, each_word, each_same, each_marks, each_and, each_or, each_sum, each_not}
use Rattle.words.proofs.Marks.{each_differs}

-- ---- a test that holds of all numbers below n

all : (ℕ → Bool) → ℕ → Bool
all p zero = true
all p (suc n) = p n && all p n

all_below : (p : ℕ → Bool) (n : ℕ) → all p n ≡ true → (b : ℕ) → b < n → p b ≡ true
unfolding all
all_below p zero e b h = absurd (omega arith)
all_below p (suc n) e b h = go (eqb b n) refl (all_below p n (and_right (p n) (all p n) e) b)
  where
    go : (x : Bool) → eqb b n ≡ x → (b < n → p b ≡ true) → p b ≡ true
    go true q rec = rw (eqb-true b n q) (and_left (p n) (all p n) e)
    go false q rec = let d = eqb-false b n q in rec (omega arith)

-- ---- the byte

abbrev ascii : ℕ → ℕ
ascii b = bit_and b 0x7F

abbrev small : ℕ → ℕ
small b = bit_or (ascii b) 0x20

abbrev letter : ℕ → ℕ
letter b = bit_and (small b + 0x1F) (255 - (small b + 0x05))

abbrev digit : ℕ → ℕ
digit b = bit_and (bit_and (ascii b + 0x53) (255 - (ascii b + 0x45))) (bit_xor (ascii b) 0x2F + 0x7F)

abbrev line : ℕ → ℕ
line b = 255 - (bit_xor (ascii b) 0x5F + 0x7F)

abbrev ending : ℕ → ℕ
ending b = bit_and (bit_or (255 - bit_or (bit_or (letter b) (digit b)) (line b)) b) 0x80

ending_byte : (b : ℕ) → b < 256 → ending b ≡ flag (is_no_name b)
unfolding all flag is_no_name is_name is_name_start is_name_more
ending_byte b h = eqb-true (ending b) (flag (is_no_name b)) (all_below (λ c. eqb (ending c) (flag (is_no_name c))) 256 refl b h)

-- ---- the sums

-- k at each byte
plus : {w x : ℕ} {f : ℕ → ℕ} → Each w x f → (k : ℕ) → {y : ℕ} → y ≡ k * 0x0101010101010101
    → all (λ b. ltb (f b + k) 256 && ltb k 256) 256 ≡ true → Each w (x + y) (λ b. f b + k)
plus {f} e k q t =
    let at : (b : ℕ) → b < 256 → ltb (f b + k) 256 && ltb k 256 ≡ true = all_below (λ b. ltb (f b + k) 256 && ltb k 256) 256 t in
    each_sum e (each_same k (ltb-true k 256 (and_right (ltb (f 0 + k) 256) _ (at 0 (omega arith)))) q)
    (λ b h. ltb-true (f b + k) 256 (and_left (ltb (f b + k) 256) _ (at b h)))

abbrev ascii_of : ℕ → ℕ
ascii_of w = bit_and w 0x7F7F7F7F7F7F7F7F

abbrev small_of : ℕ → ℕ
small_of w = bit_or (ascii_of w) 0x2020202020202020

module _ {w : ℕ} (h : w < 2 ^ 64) where
  ascii_each : Each w (ascii_of w) ascii
  ascii_each = each_and (each_word h) (each_same 0x7F (omega arith) refl)

  small_each : Each w (small_of w) small
  small_each = each_or ascii_each (each_same 0x20 (omega arith) refl)

  pub letter_over : Each w (small_of w + 0x1F1F1F1F1F1F1F1F) (λ b. small b + 0x1F)
  unfolding all
  letter_over = plus small_each 0x1F refl refl

  pub letter_under : Each w (small_of w + 0x0505050505050505) (λ b. small b + 0x05)
  unfolding all
  letter_under = plus small_each 0x05 refl refl

  pub digit_over : Each w (ascii_of w + 0x5353535353535353) (λ b. ascii b + 0x53)
  unfolding all
  digit_over = plus ascii_each 0x53 refl refl

  pub digit_under : Each w (ascii_of w + 0x4545454545454545) (λ b. ascii b + 0x45)
  unfolding all
  digit_under = plus ascii_each 0x45 refl refl

  pub no_slash : Each w (bit_xor (ascii_of w) 0x2F2F2F2F2F2F2F2F + 0x7F7F7F7F7F7F7F7F) (λ b. bit_xor (ascii b) 0x2F + 0x7F)
  no_slash = each_differs h 0x2F (omega arith)

  pub no_line : Each w (bit_xor (ascii_of w) 0x5F5F5F5F5F5F5F5F + 0x7F7F7F7F7F7F7F7F) (λ b. bit_xor (ascii b) 0x5F + 0x7F)
  no_line = each_differs h 0x5F (omega arith)

  -- ---- the word

  abbrev letters : ℕ
  letters = bit_and (small_of w + 0x1F1F1F1F1F1F1F1F) ((2 ^ 64 - 1) - (small_of w + 0x0505050505050505))

  abbrev digits : ℕ
  digits =
      bit_and (bit_and (ascii_of w + 0x5353535353535353) ((2 ^ 64 - 1) - (ascii_of w + 0x4545454545454545)))
      (bit_xor (ascii_of w) 0x2F2F2F2F2F2F2F2F + 0x7F7F7F7F7F7F7F7F)

  abbrev lines : ℕ
  lines = (2 ^ 64 - 1) - (bit_xor (ascii_of w) 0x5F5F5F5F5F5F5F5F + 0x7F7F7F7F7F7F7F7F)

  pub endings_are : bit_and (bit_or ((2 ^ 64 - 1) - bit_or (bit_or letters digits) lines) w) 0x8080808080808080
      ≡ marks_of is_no_name (bytes_of 8 w)
  endings_are =
      let letter_is = each_and letter_over (each_not letter_under) in
      let digit_is = each_and (each_and digit_over (each_not digit_under)) no_slash in
      let name_is = each_or (each_or letter_is digit_is) (each_not no_line) in
      let end_is = each_and (each_or (each_not name_is) (each_word h)) (each_same 0x80 (omega arith) refl) in
      each_marks end_is is_no_name ending_byte
