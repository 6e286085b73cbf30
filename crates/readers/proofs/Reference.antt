-- References, each with the character that it says, on every byte string. In order: digits of a class, then `;`; what is read is a
-- reference that says so (`said_refers`), and each that says something is read (`refers_said`), so one says one character; references that
-- say something are those of [67]; what is said is a scalar value; what is left is a shorter end. None of it goes by what is left being
-- characters.
use mathlib.Core.Path.{◌≡◌, refl, sym, ap, ◌∙◌}
use mathlib.Core.Bool.{Bool, true, false, cond, ◌&&◌, ◌||◌, or-true, false≢true}
use mathlib.Core.List.{List, [], ◌∷◌, ◌++◌, append_assoc, append_cancel_right}
use mathlib.Core.Logic.{◌⊎◌, inl, inr}
use mathlib.Core.Option.{Option, none, some, none-ne-some, some-injective}
use Prim.Native.Nat.{ℕ, ◌+◌, ◌*◌, ◌<◌}
use native.Mathlib.Omega.{arith}
use lib.Dec.{eqb, leb, ltb}
use borrow.Author.Tests.{eqb-true, ne_eqb, leb-true, ltb-true}
use Rattle.xml.specs.Notation.{Reads, Star, done, more, char, such, plus, bytes}
use Rattle.xml.specs.Range.{Range, ◌to◌, ◌–◌, only, inside, within}
use Rattle.xml.specs.Utf8.{utf8, is_scalar}
use Rattle.xml.specs.Character.{character, guess, value_of as character_value}
use Rattle.xml.specs.Computes.{after, each, keep, member, repeat, rests, derives}
use Rattle.xml.specs.Productions.{is_char, digit_of, number, legal, same, declared, is_name_start, is_name_more, is_name, Name, Reference}
use Rattle.xml.specs.Sign.{Predefined, amp, lt, gt, apos, quot, Refers, entity, decimal, hexadecimal}
use Rattle.xml.proofs.Bools.{and_left, and_right, or_either, inside_bounds}
use Rattle.xml.proofs.Utf8.{utf8_low, scalar_low, scalar_high, scalar_ascii}
use Rattle.xml.proofs.Computes.{derives_language}
use Rattle.xml.proofs.Same.{same_equal}
use Rattle.xml.proofs.Language.{language_reads}
use Rattle.readers.specs.Read.{and_then, or_else, expect}
use Rattle.readers.specs.Value.{is_decimal, is_hexadecimal, ends_number, Said, saying, rest_of, reference_end}
use Rattle.readers.specs.Value.{digits_of, char_ref_of, entity_of, entity_ref_of, reference_of}
use Rattle.readers.specs.Meaning.{Decides}
use Rattle.readers.proofs.Combine.{lit_sound, then_some, Ascii}
use Rattle.readers.proofs.Left.{Shorter, shorter_more, end_more}
use Rattle.readers.proofs.Many.{Shrinks}

-- ---- digits

abbrev all : (ℕ → Bool) → List ℕ → Bool
all p [] = true
all p (x ∷ w) = p x && all p w

abbrev full : List ℕ → Bool
full [] = false
full (x ∷ w) = true

module _ (p : ℕ → Bool) (base : ℕ) where
  -- the digits, of which there is one where none was before, then ';'; and their number
  record Digits (n : ℕ) (any : Bool) (s : List ℕ) (r : Said) : Type 0 where
    digits : List ℕ
    split : s ≡ digits ++ 0x3B ∷ r.rest
    all_digits : all p digits ≡ true
    one : full digits || any ≡ true
    number_is : r.code ≡ number base n digits
    allowed : is_char (number base n digits) ≡ true

  digits_sound : (n : ℕ) (any : Bool) (s : List ℕ) (r : Said) → digits_of p base n any s ≡ some r → Digits n any s r
  unfolding digits_of ends_number
  digits_sound n any [] r e = absurd (none-ne-some r e)
  digits_sound n any (x ∷ s) r e = go (p x) refl e (digits_sound (n * base + digit_of x) true s r)
    where
      last : (b : Bool) → ends_number x any n ≡ b → cond b (saying n s) none ≡ some r → Digits n any (x ∷ s) r
      last true h q =
          let l = and_right (eqb x 0x3B) _ h in
          let z = some-injective _ r q in
          record {
            digits = [];
            split = cc (eqb-true x 0x3B (and_left (eqb x 0x3B) _ h), ap (λ (v : Said). v.rest) z);
            all_digits = refl;
            one = and_left any _ l;
            number_is = sym (ap (λ (v : Said). v.code) z);
            allowed = and_right any _ l;
          }
      last false h q = absurd (none-ne-some r q)

      go : (b : Bool) → p x ≡ b
          → cond b (digits_of p base (n * base + digit_of x) true s) (cond (ends_number x any n) (saying n s) none) ≡ some r
          → (digits_of p base (n * base + digit_of x) true s ≡ some r → Digits (n * base + digit_of x) true s r) → Digits n any (x ∷ s) r
      go true h q f =
          let d = f q in
          record {
            digits = x ∷ d.digits;
            split = ap (λ (l : List ℕ). x ∷ l) d.split;
            all_digits = rw h d.all_digits;
            one = refl;
            number_is = d.number_is;
            allowed = d.allowed;
          }
      go false h q f = last (ends_number x any n) refl q

  digits_run : (n : ℕ) (any : Bool) (w s : List ℕ) → all p w ≡ true
      → digits_of p base n any (w ++ s) ≡ digits_of p base (number base n w) (full w || any) s
  unfolding digits_of
  digits_run n any [] s h = refl
  digits_run n any (x ∷ w) s h =
      rw (and_left (p x) _ h)
      (digits_run (n * base + digit_of x) true w s (and_right (p x) _ h)
      ∙ ap (λ (b : Bool). digits_of p base (number base (n * base + digit_of x) w) b s) (or-true (full w)))

  module _ (low : (c : ℕ) → p c ≡ true → c < 0x80) (semicolon : p 0x3B ≡ false) where
    digit_byte : {s m : List ℕ} → Reads (char p) s m → (x : ℕ) × (s ≡ x ∷ m) × (p x ≡ true)
    digit_byte {m = m} (c, k, h, e) = (c, e ∙ ap (λ (w : List ℕ). w ++ m) (utf8_low c (low c h)), h)

    digit_bytes : {s m : List ℕ} → Star (Reads (char p)) s m → (w : List ℕ) × (s ≡ w ++ m) × (all p w ≡ true)
    digit_bytes done = ([], refl, refl)
    digit_bytes (more r rs) =
        let (x, e, h) = digit_byte r in
        let (w, q, g) = digit_bytes rs in
        (x ∷ w, e ∙ ap (λ (l : List ℕ). x ∷ l) q, rw h g)

    byte_digit : (x : ℕ) (m : List ℕ) → p x ≡ true → Reads (char p) (x ∷ m) m
    byte_digit x m h = let l = low x h in (x, scalar_ascii x l, h, rw (utf8_low x l))

    bytes_digits : (w m : List ℕ) → all p w ≡ true → Star (Reads (char p)) (w ++ m) m
    bytes_digits [] m h = done
    bytes_digits (x ∷ w) m h = more (byte_digit x (w ++ m) (and_left (p x) _ h)) (bytes_digits w m (and_right (p x) _ h))

    some_digits : (w m : List ℕ) → all p w ≡ true → full w || false ≡ true → Reads (plus (char p)) (w ++ m) m
    some_digits [] m h f = absurd (false≢true f)
    some_digits (x ∷ w) m h f = (w ++ m, byte_digit x (w ++ m) (and_left (p x) _ h), bytes_digits w m (and_right (p x) _ h))

    digits_end : (n : ℕ) (t : List ℕ) → is_char n ≡ true → digits_of p base n true (0x3B ∷ t) ≡ saying n t
    unfolding digits_of ends_number
    digits_end n t h = rw (semicolon, h)

    -- what is read is digits and their number
    digits_read : {s : List ℕ} {r : Said} → digits_of p base 0 false s ≡ some r → (w : List ℕ)
        × Reads (such (plus (char p)) (legal base)) s (0x3B ∷ r.rest) × (s ≡ w ++ 0x3B ∷ r.rest) × (r.code ≡ number base 0 w)
    unfolding legal
    digits_read {s} {r} e =
        let x = digits_sound 0 false s r e in
        let w = x.digits in
        (w, (w, x.split, x.allowed, rw x.split (some_digits w (0x3B ∷ r.rest) x.all_digits x.one)), x.split, x.number_is)

    -- the digits w, which begin with x, and their number, are read
    digits_said : {a b : List ℕ} (w t : List ℕ) → Reads (such (plus (char p)) (legal base)) a b → a ≡ w ++ b → b ≡ 0x3B ∷ t
        → (x : ℕ) × (m : List ℕ) × (a ≡ x ∷ m) × (p x ≡ true) × (digits_of p base 0 false a ≡ saying (number base 0 w) t)
    unfolding legal
    digits_said {a} {b} w t (u, q, c, (k, r, rs)) e z =
        let (x, e₁, h₁) = digit_byte r in
        let (v, e₂, h₂) = digit_bytes rs in
        let i : a ≡ x ∷ v ++ b = e₁ ∙ ap (λ (l : List ℕ). x ∷ l) e₂ in
        let j : u ≡ x ∷ v = append_cancel_right u (x ∷ v) b (sym q ∙ i) in
        let o : w ≡ x ∷ v = append_cancel_right w (x ∷ v) b (sym e ∙ i) in (
          x,
          k,
          e₁,
          h₁,
          ap (digits_of p base 0 false) (i ∙ ap (λ (l : List ℕ). x ∷ v ++ l) z)
              ∙ digits_run 0 false (x ∷ v) (0x3B ∷ t) (rw h₁ h₂)
              ∙ digits_end _ t (ap (λ (w : List ℕ). is_char (number base 0 w)) (sym j) ∙ c)
              ∙ ap (λ (w : List ℕ). saying (number base 0 w) t) (sym o),
        )

-- the ranges have ASCII alone
abbrev low_ranges : List Range → Bool
low_ranges [] = true
low_ranges (r ∷ rs) = ltb r.high 0x80 && low_ranges rs

ranges_low : (rs : List Range) → low_ranges rs ≡ true → (c : ℕ) → within rs c ≡ true → c < 0x80
ranges_low [] l c h = absurd (false≢true h)
ranges_low (r ∷ rs) l c h = go (or_either (inside r c) _ h) (ranges_low rs (and_right (ltb r.high 0x80) _ l) c)
  where
    go : (inside r c ≡ true) ⊎ (within rs c ≡ true) → (within rs c ≡ true → c < 0x80) → c < 0x80
    go (inl q) f = omega (arith, inside_bounds r c q, ltb-true r.high 0x80 (and_left (ltb r.high 0x80) _ l))
    go (inr q) f = f q

decimal_low : (c : ℕ) → within ("0" to "9" ∷ []) c ≡ true → c < 0x80
decimal_low = ranges_low ("0" to "9" ∷ []) refl

hexadecimal_low : (c : ℕ) → within ("0" to "9" ∷ "a" to "f" ∷ "A" to "F" ∷ []) c ≡ true → c < 0x80
hexadecimal_low = ranges_low ("0" to "9" ∷ "a" to "f" ∷ "A" to "F" ∷ []) refl

-- no decimal digit is an x
digit_nine : (x : ℕ) → within ("0" to "9" ∷ []) x ≡ true → x < 0x3A
digit_nine x h = go (or_either (inside ("0" to "9") x) _ h)
  where
    go : (inside ("0" to "9") x ≡ true) ⊎ (false ≡ true) → x < 0x3A
    go (inl q) = omega (arith, inside_bounds ("0" to "9") x q)
    go (inr q) = absurd (false≢true q)

-- ---- what is read says so

or_some : {A : Type 0} (a b : Option A) {t : A} → or_else a b ≡ some t → (a ≡ some t) ⊎ (b ≡ some t)
or_some none b e = inr e
or_some (some x) b e = inl e

-- each of the five is a Name
predefined_named : {w : List ℕ} {c : ℕ} → Predefined w c → derives Name w ≡ true
unfolding derives rests each keep member after repeat character guess character_value utf8 is_scalar is_name_start is_name is_name_more
predefined_named amp = refl
predefined_named lt = refl
predefined_named gt = refl
predefined_named apos = refl
predefined_named quot = refl

entity_refers : {w : List ℕ} {c : ℕ} {s : List ℕ} {r : Said} → Predefined w c → entity_of (0x26 ∷ w ++ 0x3B ∷ []) c s ≡ some r
    → Refers r.code s r.rest
entity_refers {w} {c} {s} {r} i e =
    let (m, a, b) = then_some (expect (0x26 ∷ w ++ 0x3B ∷ []) s) (saying c) r e in
    let q : s ≡ 0x26 ∷ w ++ 0x3B ∷ m =
    lit_sound (0x26 ∷ w ++ 0x3B ∷ []) s m a ∙ ap (λ (l : List ℕ). 0x26 ∷ l) (append_assoc w (0x3B ∷ []) m) in
    let n = language_reads Name w (0x3B ∷ m) (derives_language Name w (predefined_named i)) in
    rw (← some-injective _ r b) (entity q n refl i refl)

entity_ref_refers : {s : List ℕ} {r : Said} → entity_ref_of s ≡ some r → Refers r.code s r.rest
unfolding entity_ref_of
entity_ref_refers {s} {r} e =
    elim (or_some (entity_of (bytes "&amp;") 0x26 s) _ e) [
      | inl q ↦ entity_refers amp q
      | inr e₁ ↦ elim (or_some (entity_of (bytes "&lt;") 0x3C s) _ e₁) [
        | inl q ↦ entity_refers lt q
        | inr e₂ ↦ elim (or_some (entity_of (bytes "&gt;") 0x3E s) _ e₂) [
          | inl q ↦ entity_refers gt q
          | inr e₃ ↦ elim (or_some (entity_of (bytes "&apos;") 0x27 s) _ e₃) [
            | inl q ↦ entity_refers apos q
            | inr q ↦ entity_refers quot q
          ]
        ]
      ]
    ]

char_ref_refers : {s : List ℕ} {r : Said} → char_ref_of s ≡ some r → Refers r.code s r.rest
unfolding char_ref_of is_decimal is_hexadecimal
char_ref_refers {s} {r} e = go (or_some (and_then (expect (bytes "&#x") s) (digits_of is_hexadecimal 16 0 false)) _ e)
  where
    go : (and_then (expect (bytes "&#x") s) (digits_of is_hexadecimal 16 0 false) ≡ some r)
        ⊎ (and_then (expect (bytes "&#") s) (digits_of is_decimal 10 0 false) ≡ some r) → Refers r.code s r.rest
    go (inl q) =
        let (m, a, b) = then_some (expect (bytes "&#x") s) _ r q in
        let (w, x, z, n) = digits_read is_hexadecimal 16 hexadecimal_low refl b in
        hexadecimal w (lit_sound (bytes "&#x") s m a) x z n refl
    go (inr q) =
        let (m, a, b) = then_some (expect (bytes "&#") s) _ r q in
        let (w, x, z, n) = digits_read is_decimal 10 decimal_low refl b in
        decimal w (lit_sound (bytes "&#") s m a) x z n refl

pub said_refers : {s : List ℕ} {r : Said} → reference_of s ≡ some r → Refers r.code s r.rest
unfolding reference_of
said_refers {s} e = elim (or_some (entity_ref_of s) _ e) [ inl q ↦ entity_ref_refers q | inr q ↦ char_ref_refers q ]

-- ---- what says something is read

decimal_first : (x : ℕ) (m : List ℕ) → x < 0x3A → reference_of (0x26 ∷ 0x23 ∷ x ∷ m) ≡ digits_of is_decimal 10 0 false (x ∷ m)
unfolding reference_of entity_ref_of char_ref_of expect
decimal_first x m l = rw (ne_eqb x 0x78 (omega arith))

hexadecimal_first : (a : List ℕ) (r : Said) → digits_of is_hexadecimal 16 0 false a ≡ some r
    → reference_of (0x26 ∷ 0x23 ∷ 0x78 ∷ a) ≡ some r
unfolding reference_of entity_ref_of char_ref_of expect
hexadecimal_first a r e = rw e

entity_first : {w : List ℕ} {c : ℕ} (t : List ℕ) → Predefined w c → reference_of (0x26 ∷ w ++ 0x3B ∷ t) ≡ saying c t
unfolding reference_of entity_ref_of expect
entity_first t amp = refl
entity_first t lt = refl
entity_first t gt = refl
entity_first t apos = refl
entity_first t quot = refl

pub refers_said : {c : ℕ} {s t : List ℕ} → Refers c s t → reference_of s ≡ saying c t
unfolding is_decimal is_hexadecimal
refers_said {t = t} (entity {w = w} e r q i z) =
    ap reference_of (e ∙ ap (λ (l : List ℕ). 0x26 ∷ l) (q ∙ ap (λ (l : List ℕ). w ++ l) z)) ∙ entity_first t i
refers_said {t = t} (decimal w e r q c z) =
    let (x, m, i, h, k) = digits_said is_decimal 10 decimal_low refl w t r q z in
    ap reference_of (e ∙ ap (λ (l : List ℕ). 0x26 ∷ 0x23 ∷ l) i)
    ∙ decimal_first x m (digit_nine x h)
    ∙ ap (digits_of is_decimal 10 0 false) (sym i) ∙ k ∙ ap (λ (c : ℕ). saying c t) (sym c)
refers_said {t = t} (hexadecimal w e r q c z) =
    let k = digits_said is_hexadecimal 16 hexadecimal_low refl w t r q z in
    ap reference_of e ∙ hexadecimal_first _ _ k.4 ∙ ap (λ (c : ℕ). saying c t) (sym c)

pub refers_once : {c c' : ℕ} {s t t' : List ℕ} → Refers c s t → Refers c' s t' → (c ≡ c') × (t ≡ t')
refers_once x y =
    let z = some-injective _ _ (sym (refers_said x) ∙ refers_said y) in
    (ap (λ (r : Said). r.code) z, ap (λ (r : Said). r.rest) z)

-- ---- [67] Reference

declared_predefined : (w : List ℕ) → declared w ≡ true → (c : ℕ) × Predefined w c
unfolding declared
declared_predefined w h =
    go (same w (bytes "amp")) (same w (bytes "lt")) (same w (bytes "gt")) (same w (bytes "apos")) (same w (bytes "quot"))
    refl refl refl refl refl h
  where
    is : {v : List ℕ} {c : ℕ} → Predefined v c → same w v ≡ true → (c : ℕ) × Predefined w c
    is {v} {c} x e = (c, rw (same_equal w v e) x)

    go : (a b c d e : Bool) → same w (bytes "amp") ≡ a → same w (bytes "lt") ≡ b → same w (bytes "gt") ≡ c
        → same w (bytes "apos") ≡ d → same w (bytes "quot") ≡ e → a || b || c || d || e ≡ true → (c : ℕ) × Predefined w c
    go true b c d e p₀ p₁ p₂ p₃ p₄ h = is amp p₀
    go false true c d e p₀ p₁ p₂ p₃ p₄ h = is lt p₁
    go false false true d e p₀ p₁ p₂ p₃ p₄ h = is gt p₂
    go false false false true e p₀ p₁ p₂ p₃ p₄ h = is apos p₃
    go false false false false true p₀ p₁ p₂ p₃ p₄ h = is quot p₄
    go false false false false false p₀ p₁ p₂ p₃ p₄ h = absurd (false≢true h)

predefined_declared : {w : List ℕ} {c : ℕ} → Predefined w c → declared w ≡ true
unfolding declared
predefined_declared amp = refl
predefined_declared lt = refl
predefined_declared gt = refl
predefined_declared apos = refl
predefined_declared quot = refl

pub reads_refers : {s t : List ℕ} → Reads Reference s t → (c : ℕ) × Refers c s t
reads_refers (inl (a, e, (b, (w, q, h, r), z))) = let (c, i) = declared_predefined w h in (c, entity e r q i z)
reads_refers (inr (inl (a, e, (b, (w, q, h, r), z)))) = (number 10 0 w, decimal w e (w, q, h, r) q refl z)
reads_refers (inr (inr (a, e, (b, (w, q, h, r), z)))) = (number 16 0 w, hexadecimal w e (w, q, h, r) q refl z)

pub refers_reads : {c : ℕ} {s t : List ℕ} → Refers c s t → Reads Reference s t
refers_reads (entity {w = w} {a = a} {b = b} e r q i z) = inl (a, e, (b, (w, q, predefined_declared i, r), z))
refers_reads (decimal w {a = a} {b = b} e r q c z) = inr (inl (a, e, (b, r, z)))
refers_reads (hexadecimal w {a = a} {b = b} e r q c z) = inr (inr (a, e, (b, r, z)))

rest_some : (o : Option Said) {t : List ℕ} → rest_of o ≡ some t → (r : Said) × (o ≡ some r) × (r.rest ≡ t)
rest_some none {t} e = absurd (none-ne-some t e)
rest_some (some r) {t} e = (r, refl, some-injective r.rest t e)

-- where a reference ends
pub end_refers : {s t : List ℕ} → reference_end s ≡ some t → (c : ℕ) × Refers c s t
end_refers {s} {t} e = go (rest_some (reference_of s) e)
  where
    go : (r : Said) × (reference_of s ≡ some r) × (r.rest ≡ t) → (c : ℕ) × Refers c s t
    go (r, q, z) = (r.code, rw (← z) (said_refers q))

pub reference_decides : Decides Reference reference_end
reference_decides =
    record {
      sound = λ {s} {t} d e. let (c, x) = end_refers e in refers_reads x;
      complete = λ {s} {t} d x. let (c, y) = reads_refers x in ap rest_of (refers_said y);
    }

pub reference_ascii : Ascii Reference
reference_ascii = ((refl, ((tt, tt), refl)), ((refl, ((tt, tt), refl)), (refl, ((tt, tt), refl))))

-- ---- what a reference says is a Char, and so a scalar value

abbrev scalars : List Range → Bool
scalars [] = true
scalars (r ∷ rs) = (ltb r.high 0xD800 || leb 0xE000 r.low && ltb r.high 0x110000) && scalars rs

ranges_scalar : (rs : List Range) (c : ℕ) → scalars rs ≡ true → within rs c ≡ true → is_scalar c ≡ true
ranges_scalar [] c h e = absurd (false≢true e)
ranges_scalar (r ∷ rs) c h e =
    let here = ltb r.high 0xD800 || leb 0xE000 r.low && ltb r.high 0x110000 in
    go (or_either (inside r c) _ e) (or_either (ltb r.high 0xD800) _ (and_left here _ h)) (ranges_scalar rs c (and_right here _ h))
  where
    go : (inside r c ≡ true) ⊎ (within rs c ≡ true) → (ltb r.high 0xD800 ≡ true) ⊎ (leb 0xE000 r.low && ltb r.high 0x110000 ≡ true)
        → (within rs c ≡ true → is_scalar c ≡ true) → is_scalar c ≡ true
    go (inr q) b f = f q
    go (inl q) (inl b) f = scalar_low c (omega (arith, inside_bounds r c q, ltb-true r.high 0xD800 b))
    go (inl q) (inr b) f =
        let l = leb-true 0xE000 r.low (and_left (leb 0xE000 r.low) _ b) in
        let m = ltb-true r.high 0x110000 (and_right (leb 0xE000 r.low) _ b) in
        scalar_high c (omega (arith, inside_bounds r c q)) (omega (arith, inside_bounds r c q))

char_scalar : (c : ℕ) → is_char c ≡ true → is_scalar c ≡ true
unfolding is_char
char_scalar c =
    ranges_scalar (only 0x9 ∷ only 0xA ∷ only 0xD ∷ 0x20 – 0xD7FF ∷ 0xE000 – 0xFFFD ∷ 0x10000 – 0x10FFFF ∷ []) c refl

number_scalar : (base : ℕ) {c : ℕ} {a : List ℕ} (w u b : List ℕ) → a ≡ u ++ b → legal base u ≡ true → a ≡ w ++ b → c ≡ number base 0 w
    → is_scalar c ≡ true
unfolding legal
number_scalar base w u b q h e i =
    let j : u ≡ w = append_cancel_right u w b (sym q ∙ e) in
    rw (i, ← j) (char_scalar (number base 0 u) h)

predefined_scalar : {w : List ℕ} {c : ℕ} → Predefined w c → is_scalar c ≡ true
unfolding is_scalar
predefined_scalar amp = refl
predefined_scalar lt = refl
predefined_scalar gt = refl
predefined_scalar apos = refl
predefined_scalar quot = refl

pub refers_scalar : {c : ℕ} {s t : List ℕ} → Refers c s t → is_scalar c ≡ true
refers_scalar (entity e r q i z) = predefined_scalar i
refers_scalar (decimal w {b = b} e (u, q, h, r) i c z) = number_scalar 10 w u b q h i c
refers_scalar (hexadecimal w {b = b} e (u, q, h, r) i c z) = number_scalar 16 w u b q h i c

-- ---- every reference begins with &, and leaves a shorter end

pub reference_other : (b : ℕ) (s : List ℕ) → (b ≡ 0x26 → ⊥) → reference_of (b ∷ s) ≡ none
unfolding reference_of entity_ref_of char_ref_of expect
reference_other b s n = rw (ne_eqb b 0x26 n)

pub refers_first : {c : ℕ} {s t : List ℕ} → Refers c s t → (m : List ℕ) × (s ≡ 0x26 ∷ m)
refers_first (entity {a = a} e r q i z) = (a, e)
refers_first (decimal w {a = a} e r q c z) = (0x23 ∷ a, e)
refers_first (hexadecimal w {a = a} e r q c z) = (0x23 ∷ 0x78 ∷ a, e)

-- what follows the text u, then w and `;`
refers_end : {s a b t : List ℕ} (x : ℕ) (u w : List ℕ) → s ≡ x ∷ u ++ a → a ≡ w ++ b → b ≡ 0x3B ∷ t → Shorter s t
refers_end x u w e q z = shorter_more (x ∷ u, e, omega arith) (end_more (w, q) (0x3B ∷ [], z))

pub refers_shorter : {c : ℕ} {s t : List ℕ} → Refers c s t → Shorter s t
refers_shorter (entity {w = w} e r q i z) = refers_end 0x26 [] w e q z
refers_shorter (decimal w e r q c z) = refers_end 0x26 (bytes "#") w e q z
refers_shorter (hexadecimal w e r q c z) = refers_end 0x26 (bytes "#x") w e q z

pub reference_shrinks : Shrinks reference_end
reference_shrinks = record { front = λ s t e. let (c, x) = end_refers e in refers_shorter x }
