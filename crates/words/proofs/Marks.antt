-- Marks: the bytes of a word that are one of three. In order: two numbers whose `^` is 0; a byte's bit 7, through the operations; a byte
-- beside another; the byte of the mask; the word.
use mathlib.Core.Path.{◌≡◌, refl, sym, ap, ap₂, ◌∙◌}
use mathlib.Core.Bool.{Bool, true, false, not, cond, ◌&&◌, ◌||◌}
use Prim.Native.Nat.{ℕ, zero, suc, ◌+◌, ◌-◌, ◌*◌, ◌/◌, ◌%◌, ◌^◌, ◌<◌}
use native.Mathlib.Omega.{arith}
use borrow.Author.Tests.{eqb-true, eqb-false, ne_eqb, leb-true, leb-false}
use lib.Arith.{bin_ind}
use lib.Bits.{bit_and, bit_or, bit_xor, differ, and_lt, or_lt, and_shr, or_shr, and_high, and_mask, mask_lt, xor_lt, xor_self, xor_step}
use lib.Dec.{eqb, leb}
use mir.Val.{bool_byte}
use Rattle.words.specs.Word.{bytes_of, flag, marks_of, one_of}
use Rattle.words.proofs.Each.{Each, each_word, each_same, each_lt, each_marks, each_and, each_or, each_xor, each_sum, each_not}

-- ---- two numbers whose `^` is 0

differ_same : (x y : ℕ) → differ x y ≡ 0 → x ≡ y
differ_same zero y e = sym e
differ_same (suc x) zero e = e
differ_same (suc x) (suc y) e = ap suc (differ_same x y e)

pub xor_same : (a b : ℕ) → bit_xor a b ≡ 0 → a ≡ b
xor_same =
    bin_ind (λ (n : ℕ). (b : ℕ) → bit_xor n b ≡ 0 → n ≡ b) (λ b e. sym e)
    (λ n rec b e. together n b (rec (b / 2)) (sym (xor_step n b) ∙ e))
  where
    together : (n b : ℕ) → (bit_xor (n / 2) (b / 2) ≡ 0 → n / 2 ≡ b / 2) → bit_xor (n / 2) (b / 2) * 2 + differ (n % 2) (b % 2) ≡ 0 → n ≡ b
    together n b rec e =
        let h = rec (omega arith) in
        let l = differ_same (n % 2) (b % 2) (omega arith) in
        omega arith

-- ---- bit 7 of a byte

-- bit 7 of x is set where t holds
record Top (x : ℕ) (t : Bool) : Type 0 where
  top : x / 128 ≡ bool_byte t

module _ {x y : ℕ} {t u : Bool} (p : Top x t) (q : Top y u) where
  top_and : Top (bit_and x y) (t && u)
  top_and = record { top = and_shr x y 7 ∙ ap₂ bit_and p.top q.top ∙ go t u }
    where
      go : (t u : Bool) → bit_and (bool_byte t) (bool_byte u) ≡ bool_byte (t && u)
      go true true = refl
      go true false = refl
      go false u = refl

  top_or : Top (bit_or x y) (t || u)
  top_or = record { top = or_shr x y 7 ∙ ap₂ bit_or p.top q.top ∙ go t u }
    where
      go : (t u : Bool) → bit_or (bool_byte t) (bool_byte u) ≡ bool_byte (t || u)
      go true true = refl
      go true false = refl
      go false u = refl

top_not : {x : ℕ} {t : Bool} → x < 256 → Top x t → Top (255 - x) (not t)
top_not {x} {t} h p = record { top = go t p.top }
  where
    go : (t : Bool) → x / 128 ≡ bool_byte t → (255 - x) / 128 ≡ bool_byte (not t)
    go true e = omega arith
    go false e = omega arith

top_flag : {x : ℕ} {t : Bool} → Top x t → bit_and x 0x80 ≡ flag t
unfolding flag
top_flag {x} {t} p = and_high x 1 7 ∙ go t p.top
  where
    go : (t : Bool) → x / 128 ≡ bool_byte t → (x / 128 % 2) * 128 ≡ cond t 128 0
    go true e = rw e refl
    go false e = rw e refl

-- ---- a byte beside another, which is below 0x80

abbrev other : ℕ → ℕ → ℕ
other a b = bit_xor (bit_and b 0x7F) a + 0x7F

module _ (a b : ℕ) (h : a < 128) where
  low_lt : bit_xor (bit_and b 0x7F) a < 128
  low_lt = xor_lt 7 (bit_and b 0x7F) a (mask_lt b 7) h

  other_lt : other a b < 256
  other_lt = let l = low_lt in omega arith

  top_other : Top (other a b) (not (eqb (b % 128) a))
  top_other = record { top = go (eqb (b % 128) a) refl }
    where
      low : bit_and b 0x7F ≡ b % 128
      low = and_mask b 7

      go : (x : Bool) → eqb (b % 128) a ≡ x → other a b / 128 ≡ bool_byte (not x)
      go true e =
          let z : bit_xor (bit_and b 0x7F) a ≡ 0 = ap₂ bit_xor (low ∙ eqb-true (b % 128) a e) refl ∙ xor_self a in
          omega arith
      go false e =
          let l = low_lt in
          let z : bit_xor (bit_and b 0x7F) a ≡ 0 → ⊥ = λ z. eqb-false (b % 128) a e (sym low ∙ xor_same (bit_and b 0x7F) a z) in
          omega arith

-- ---- the byte of the mask

top_self : (b : ℕ) → b < 256 → Top b (leb 128 b)
top_self b h = record { top = go (leb 128 b) refl }
  where
    go : (x : Bool) → leb 128 b ≡ x → b / 128 ≡ bool_byte x
    go true e = let l = leb-true 128 b e in omega arith
    go false e = let l = leb-false 128 b e in omega arith

one_of_lem : (x y z : Bool) → not ((not x && not y) && not z) ≡ x || (y || z)
one_of_lem true y z = refl
one_of_lem false true z = refl
one_of_lem false false true = refl
one_of_lem false false false = refl

module _ (x y z : ℕ) (hx : x < 128) (hy : y < 128) (hz : z < 128) where
  -- in the order of the source
  abbrev others : ℕ → ℕ
  others b = bit_and (bit_and (other x b) (other y b)) (other z b)

  tests : (b : ℕ) → b < 256 → not (leb 128 b || ((not (eqb (b % 128) x) && not (eqb (b % 128) y)) && not (eqb (b % 128) z)))
      ≡ one_of x y z b
  unfolding one_of
  tests b h = go (leb 128 b) refl
    where
      go : (t : Bool) → leb 128 b ≡ t
          → not (t || ((not (eqb (b % 128) x) && not (eqb (b % 128) y)) && not (eqb (b % 128) z))) ≡ eqb b x || (eqb b y || eqb b z)
      go true e =
          let l = leb-true 128 b e in
          rw (ne_eqb b x (λ e. omega arith), ne_eqb b y (λ e. omega arith), ne_eqb b z (λ e. omega arith))
      go false e =
          let l = leb-false 128 b e in
          let s : b % 128 ≡ b = omega arith in
          rw s (one_of_lem (eqb b x) (eqb b y) (eqb b z))

  mark_byte : (b : ℕ) → b < 256 → bit_and (255 - bit_or b (others b)) 0x80 ≡ flag (one_of x y z b)
  mark_byte b h =
      let l : others b < 256 = and_lt 8 _ _ (and_lt 8 _ _ (other_lt x b hx) (other_lt y b hy)) (other_lt z b hz) in
      let t = top_or (top_self b h) (top_and (top_and (top_other x b hx) (top_other y b hy)) (top_other z b hz)) in
      top_flag (top_not (or_lt 8 b (others b) h l) t) ∙ ap flag (tests b h)

-- ---- the word

-- each byte of w beside the byte a
abbrev differs : ℕ → ℕ → ℕ
differs w a = bit_xor (bit_and w 0x7F7F7F7F7F7F7F7F) (0x0101010101010101 * a) + 0x7F7F7F7F7F7F7F7F

module _ {w : ℕ} (h : w < 2 ^ 64) where
  pub each_differs : (a : ℕ) → a < 128 → Each w (differs w a) (other a)
  each_differs a l =
      let low = each_same 0x7F (omega arith) refl in
      each_sum (each_xor (each_and (each_word h) low) (each_same a (omega arith) (omega arith))) low (λ b k. other_lt a b l)

  pub differs_lt : (a : ℕ) → a < 128 → differs w a < 2 ^ 64
  differs_lt a l = each_lt (each_differs a l)

  pub marks_are : (x y z : ℕ) → x < 128 → y < 128 → z < 128
      → bit_and ((2 ^ 64 - 1) - bit_or w (bit_and (bit_and (differs w x) (differs w y)) (differs w z))) 0x8080808080808080
      ≡ marks_of (one_of x y z) (bytes_of 8 w)
  marks_are x y z hx hy hz =
      let d = each_and (each_and (each_differs x hx) (each_differs y hy)) (each_differs z hz) in
      let m = each_and (each_not (each_or (each_word h) d)) (each_same 0x80 (omega arith) refl) in
      each_marks m (one_of x y z) (mark_byte x y z hx hy hz)
