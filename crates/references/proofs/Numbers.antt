-- Numbers of [66]: the value of a digit, as std's `to_digit` tells it; the end of a number; and the loop over digits. Its
-- invariant: the digits left, with the number so far, read as all of them do from the start; and the number is at most 0x110000, past which
-- it does not matter.
use mathlib.Core.Path.{◌≡◌, refl, sym, ap, ◌∙◌}
use mathlib.Core.Bool.{Bool, true, false, cond, ◌&&◌}
use mathlib.Core.List.{List, [], ◌∷◌}
use mathlib.Core.Logic.{inl, inr}
use mathlib.Core.Option.{none, some}
use Prim.Native.Nat.{ℕ, ◌+◌, ◌-◌, ◌*◌, ◌≤◌, ◌<◌, min}
use native.Mathlib.Nat.{mul-le-mul_left, min-eq_left}
use native.Mathlib.Omega.{arith}
use borrow.Author.Tests.{lt-leb, lt-ltb, le-ltb, eq-eqb, ne_eqb, leb-true, leb-false}
use lib.Dec.{eqb, leb, ltb}
use lib.ListN.{length, get_or, take, drop, length-drop}
use lib.Seq.{take_all, drop-drop}
use Rattle.std.specs.Char.{digit_value}
use Rattle.std.proofs.lemmas.Bool.{cases_lt}
use Rattle.xml.specs.Range.{inside, ◌–◌}
use Rattle.xml.specs.Productions.{is_char, digit_of}
use Rattle.xml.proofs.Bools.{bounds_inside}
use Rattle.utf8.proofs.Place.{drop_step, drop_end}
use Rattle.xml.proofs.Borders.{char_high}
use Rattle.std.specs.Prelude.{Some, None}
use Rattle.readers.specs.Value.{is_decimal, is_hexadecimal, ends_number}
use Rattle.readers.specs.Value.{digits_of}
use Rattle.references.specs.Say.{Tells, says, faults}
use Rattle.references.specs.Digit.{Base, ten, sixteen, digit_in}

-- ---- the value of a digit

under : (a b x : ℕ) → x < a → inside (a – b) x ≡ false
under a b x h = rw (lt-leb a x h)

over : (a b x : ℕ) → b < x → inside (a – b) x ≡ false
over a b x h = go (leb a x) (lt-leb x b h)
  where
    go : (c : Bool) → leb x b ≡ false → c && leb x b ≡ false
    go true e = e
    go false e = refl

-- what is told of a byte as a digit: its value is below a base where it is a digit of it
pub record Digit (b v : ℕ) : Type 0 where
  pub decimal : is_decimal b ≡ ltb v 10
  pub hexadecimal : is_hexadecimal b ≡ ltb v 16
  pub value : v < 16 → digit_of b ≡ v

-- a byte in none of the three ranges
none_of : {x v : ℕ} → 16 ≤ v → inside (0x30 – 0x39) x ≡ false → inside (0x61 – 0x66) x ≡ false → inside (0x41 – 0x46) x ≡ false → Digit x v
unfolding is_decimal is_hexadecimal
none_of {x} {v} l p q r =
    record {
      decimal = rw (p, le-ltb v 10 (omega arith));
      hexadecimal = rw (p, q, r, le-ltb v 16 l);
      value = λ k. absurd (omega arith);
    }

decimal : {x : ℕ} → 0x30 ≤ x → x < 0x3A → Digit x (x - 0x30)
unfolding is_decimal is_hexadecimal digit_of
decimal {x} l h =
    let i = bounds_inside (0x30 – 0x39) x l (omega arith) in
    record {
      decimal = rw (i, lt-ltb (x - 0x30) 10 (omega arith));
      hexadecimal = rw (i, lt-ltb (x - 0x30) 16 (omega arith));
      value = λ k. rw i;
    }

upper : {x : ℕ} → 0x41 ≤ x → x < 0x47 → Digit x (x - 0x37)
unfolding is_decimal is_hexadecimal digit_of
upper {x} l h =
    let p = over 0x30 0x39 x (omega arith) in
    let q = under 0x61 0x66 x (omega arith) in
    record {
      decimal = rw (p, le-ltb (x - 0x37) 10 (omega arith));
      hexadecimal = rw (p, q, bounds_inside (0x41 – 0x46) x l (omega arith), lt-ltb (x - 0x37) 16 (omega arith));
      value = λ k. rw (p, q) (omega arith);
    }

lower : {x : ℕ} → 0x61 ≤ x → x < 0x67 → Digit x (x - 0x57)
unfolding is_decimal is_hexadecimal digit_of
lower {x} l h =
    let p = over 0x30 0x39 x (omega arith) in
    let q = bounds_inside (0x61 – 0x66) x l (omega arith) in
    record {
      decimal = rw (p, le-ltb (x - 0x57) 10 (omega arith));
      hexadecimal = rw (p, q, lt-ltb (x - 0x57) 16 (omega arith));
      value = λ k. rw (p, q) (omega arith);
    }

-- the value that `to_digit` goes by, by the stretches of bytes in order
module _ {x : ℕ} where
  before_all : x < 48 → Digit x 36
  before_all h = none_of (omega arith) (under 0x30 0x39 x h) (under 0x61 0x66 x (omega arith)) (under 0x41 0x46 x (omega arith))

  before_upper : 58 ≤ x → x < 65 → Digit x 36
  before_upper l h = none_of (omega arith) (over 0x30 0x39 x l) (under 0x61 0x66 x (omega arith)) (under 0x41 0x46 x h)

  before_lower : {v : ℕ} → 71 ≤ x → x < 97 → 16 ≤ v → Digit x v
  before_lower l h g = none_of g (over 0x30 0x39 x (omega arith)) (under 0x61 0x66 x h) (over 0x41 0x46 x l)

  behind_all : {v : ℕ} → 103 ≤ x → 16 ≤ v → Digit x v
  behind_all l g = none_of g (over 0x30 0x39 x (omega arith)) (over 0x61 0x66 x l) (over 0x41 0x46 x (omega arith))

  letter_told : 65 ≤ x → Digit x (cond (ltb x 91) (x - 55) (cond (ltb x 97) 36 (cond (ltb x 123) (x - 87) 36)))
  letter_told l =
      elim (cases_lt x 91) [
        | inl a ↦ rw (lt-ltb x 91 a) (elim (cases_lt x 71) [ inl b ↦ upper l b | inr b ↦ before_lower b (omega arith) (omega arith) ])
        | inr a ↦ rw (le-ltb x 91 a) (elim (cases_lt x 97) [
          | inl b ↦ rw (lt-ltb x 97 b) (before_lower (omega arith) b (omega arith))
          | inr b ↦ rw (le-ltb x 97 b) (elim (cases_lt x 123) [
            | inl c ↦ rw (lt-ltb x 123 c) (elim (cases_lt x 103) [ inl e ↦ lower b e | inr e ↦ behind_all e (omega arith) ])
            | inr c ↦ rw (le-ltb x 123 c) (behind_all (omega arith) (omega arith))
          ])
        ])
      ]

digit_told : (x : ℕ) → Digit x (digit_value x)
digit_told x =
    elim (cases_lt x 48) [
      | inl a ↦ rw (lt-ltb x 48 a) (before_all a)
      | inr a ↦ rw (le-ltb x 48 a) (elim (cases_lt x 58) [
        | inl b ↦ rw (lt-ltb x 58 b) (decimal a b)
        | inr b ↦ rw (le-ltb x 58 b) (elim (cases_lt x 65) [
          | inl c ↦ rw (lt-ltb x 65 c) (before_upper b c)
          | inr c ↦ rw (le-ltb x 65 c) (letter_told c)
        ])
      ])
    ]

-- ---- the end of a number

module _ (x n : ℕ) (any : Bool) where
  pub number_other : (x ≡ 0x3B → ⊥) → false ≡ ends_number x any n
  unfolding ends_number
  number_other h = rw (ne_eqb x 0x3B h)

  pub number_empty : x ≡ 0x3B → any ≡ false → false ≡ ends_number x any n
  unfolding ends_number
  number_empty h e = rw (eq-eqb x 0x3B h, e)

  pub number_char : {r : Bool} → x ≡ 0x3B → any ≡ true → r ≡ is_char n → r ≡ ends_number x any n
  unfolding ends_number
  number_char h e q = rw (eq-eqb x 0x3B h, e) q

pub ruleset ending = (number_other, number_empty, number_char)

-- ---- past the last code point the number does not matter

no_char : (n : ℕ) → 0x110000 ≤ n → is_char n ≡ false
no_char n h = sym (char_high {c = n} (omega arith)) ∙ le-ltb n 0x110000 h

grows : (n base v : ℕ) → 0 < base → 0x110000 ≤ n → 0x110000 ≤ n * base + v
grows n base v b h = let l : n * 1 ≤ n * base = mul-le-mul_left n b in omega arith

and_never : (a b : Bool) → a && (b && false) ≡ false
and_never true true = refl
and_never true false = refl
and_never false b = refl

-- such a number ends nowhere
never_ends : (x n : ℕ) (any : Bool) → 0x110000 ≤ n → ends_number x any n ≡ false
unfolding ends_number
never_ends x n any h = rw (no_char n h) (and_never (eqb x 0x3B) any)

module _ (p : ℕ → Bool) (base : ℕ) (positive : 0 < base) where
  past : (n m : ℕ) (any : Bool) (s : List ℕ) → 0x110000 ≤ n → 0x110000 ≤ m → digits_of p base n any s ≡ digits_of p base m any s
  unfolding digits_of
  past n m any [] h k = refl
  past n m any (x ∷ s) h k =
      rw (
        never_ends x n any h,
        never_ends x m any k,
        past (n * base + digit_of x) (m * base + digit_of x) true s (grows n base (digit_of x) positive h)
            (grows m base (digit_of x) positive k),
      )

  capped : (n : ℕ) (any : Bool) (s : List ℕ) → digits_of p base (min n 0x110000) any s ≡ digits_of p base n any s
  capped n any s = go (leb n 0x110000) refl
    where
      go : (c : Bool) → leb n 0x110000 ≡ c → digits_of p base (min n 0x110000) any s ≡ digits_of p base n any s
      go true e = ap (λ (m : ℕ). digits_of p base m any s) (min-eq_left (leb-true n 0x110000 e))
      go false e = let l = leb-false n 0x110000 e in past (min n 0x110000) n any s (omega arith) (omega arith)

-- ---- the loop over the digits s

pub record Numbering (s : List ℕ) (base k n : ℕ) : Type 0 where
  pub inside : k ≤ length s
  pub cap : n ≤ 0x110000
  pub same : digits_of (digit_in base) base n (ltb 0 k) (drop k s) ≡ digits_of (digit_in base) base 0 false s

base_small : {base : ℕ} → Base base → base ≤ 16
base_small ten = omega arith
base_small sixteen = omega arith

base_large : {base : ℕ} → Base base → 2 ≤ base
base_large ten = omega arith
base_large sixteen = omega arith

in_base : {base b v : ℕ} → Base base → Digit b v → digit_in base b ≡ ltb v base
in_base ten g = g.decimal
in_base sixteen g = g.hexadecimal

-- what is lent from the place at on
tail : (d : List ℕ) (at : ℕ) → take (length d - at) (drop at d) ≡ drop at d
tail d at = take_all (length d - at) (drop at d) (omega (arith, length-drop at d))

module _ (d : List ℕ) (at : ℕ) {base k n : ℕ} (w : at ≤ length d) (z : Base base) (q : Numbering (drop at d) base k n) where
  pub number_short : length (take (length d - at) (drop at d)) ≤ k → Tells d at None (digits_of (digit_in base) base 0 false (drop at d))
  unfolding digits_of
  number_short h = rw (← q.same, drop_end (drop at d) k (rw (tail d at) at h)) faults

  module _ (l : k < length (take (length d - at) (drop at d))) {x : ℕ} (e : x ≡ get_or (take (length d - at) (drop at d)) k 0) where
    less : k < length (drop at d)
    less = rw (tail d at) at l

    byte : x ≡ get_or (drop at d) k 0
    byte = rw (tail d at) at e

    step : digits_of (digit_in base) base n (ltb 0 k) (drop k (drop at d))
        ≡ cond (ltb (digit_value x) base) (digits_of (digit_in base) base (n * base + digit_of x) true (drop (k + 1) (drop at d)))
        (cond (ends_number x (ltb 0 k) n) (some (record { code = n; rest = drop (k + 1) (drop at d) })) none)
    unfolding digits_of
    step = rw (drop_step (drop at d) k less, ← byte, in_base z (digit_told x))

    module _ (h : digit_value x < base → ⊥)
        {b : Bool} (t : b ≡ ends_number (get_or (take (length d - at) (drop at d)) k 0) (ltb 0 k) n) where
      ended : b ≡ ends_number x (ltb 0 k) n
      ended = rw e t

      pub number_ends : b ≡ true → Tells d at (Some (n, at + k + 1)) (digits_of (digit_in base) base 0 false (drop at d))
      number_ends y =
          rw (← q.same, step, le-ltb (digit_value x) base (omega arith), sym ended ∙ y)
          (says {c = n} {e = at + k + 1} (record { rest = rest; inside = omega (arith, less, length-drop at d) }) (omega arith))
        where
          same_place : at + (k + 1) ≡ at + k + 1
          same_place = omega arith

          rest : drop (at + k + 1) d ≡ drop (k + 1) (drop at d)
          rest = sym (drop-drop (k + 1) at d ∙ ap (λ (m : ℕ). drop m d) same_place)

      pub number_fault : b ≡ false → Tells d at None (digits_of (digit_in base) base 0 false (drop at d))
      number_fault y = rw (← q.same, step, le-ltb (digit_value x) base (omega arith), sym ended ∙ y) faults

    module _ {v : ℕ} (h : (digit_value x < base) × (v ≡ digit_value x)) where
      pub number_more : {m : ℕ} → m ≡ min (n * base + v) 0x110000 → Numbering (drop at d) base (k + 1) m
      number_more {m} f =
          let u : digit_of x ≡ v = (digit_told x).value (let y = base_small z in omega arith) ∙ sym h.1 in
          record {
            inside = omega (arith, less);
            cap = omega arith;
            same =
                rw (lt-ltb 0 (k + 1) (omega arith), f)
                (capped (digit_in base) base (let y = base_large z in omega arith) (n * base + v) true (drop (k + 1) (drop at d))
                ∙ sym (rw (step, lt-ltb (digit_value x) base h.0, u))
                ∙ q.same);
          }
