-- The character at the front of some bytes. In order: a text at the front; `guess` gives back what was written; `character` finds the
-- scalar value whose UTF-8 stands at the front, wherever there is one, and there is one only; characters by their first byte; and how the
-- table finds it: the bytes that the first byte asks for are a sequence of the table, or there is no character.
use mathlib.Core.Path.{◌≡◌, refl, sym, ap, ◌∙◌}
use mathlib.Core.Bool.{Bool, true, false, cond, ◌&&◌, false≢true}
use mathlib.Core.List.{List, [], ◌∷◌, ◌++◌}
use mathlib.Core.Option.{Option, none, some, none-ne-some, some-injective}
use Prim.Native.Nat.{ℕ, ◌+◌, ◌*◌, ◌/◌, ◌%◌, ◌≤◌, ◌<◌}
use native.Mathlib.Omega.{arith}
use lib.ListN.{length, get_or, take, drop, take-append-drop}
use lib.Seq.{take-append_seam, drop-append_seam}
use lib.Dec.{eqb, ltb}
use borrow.Author.Tests.{eqb-true, eq-eqb, ltb-true, ltb-false, lt-ltb, le-ltb}
use Rattle.xml.specs.Utf8.{utf8, is_scalar, size_of, well_formed}
use Rattle.xml.specs.Character.{begins, value_of, guess, character}
use Rattle.xml.proofs.Bools.{and_left, and_right, true-false}
use Rattle.xml.proofs.Utf8.{Cases, cases, one, two, three, four, formed_scalar, scalar_formed, scalar_below, scalar_ascii, utf8_low}
use Rattle.xml.proofs.Utf8.{utf8_some, size_utf8}

-- ---- a text at the front

pub begins_append : (w t : List ℕ) → begins w (w ++ t) ≡ true
begins_append [] t = refl
begins_append (x ∷ w) t = rw (eq-eqb x x refl) (begins_append w t)

pub begins_split : (w s : List ℕ) → begins w s ≡ true → s ≡ w ++ drop (length w) s
begins_split [] s h = refl
begins_split (x ∷ w) [] h = absurd (false≢true h)
begins_split (x ∷ w) (y ∷ s) h = cc (eqb-true y x (and_left (eqb y x) _ h), begins_split w s (and_right (eqb y x) _ h))

-- ---- the value of a code point's bytes

low_six : (x : ℕ) → (0x80 + x % 0x40) % 0x40 ≡ x % 0x40
low_six x = omega arith

from_sixes : (c : ℕ) → c < 0x110000
    → (0xF0 + c / 0x40000) % 8 * 0x40000 + c / 0x1000 % 0x40 * 0x1000 + c / 0x40 % 0x40 * 0x40 + c % 0x40 ≡ c
from_sixes c h =
    let a : c / 0x1000 ≡ c / 0x40 / 0x40 = omega arith in
    let b : c / 0x40000 ≡ c / 0x1000 / 0x40 = omega arith in
    let d : (0xF0 + c / 0x40000) % 8 ≡ c / 0x40000 = omega arith in
    omega arith

pub guess-utf8 : (c : ℕ) (t : List ℕ) → is_scalar c ≡ true → guess (utf8 c ++ t) ≡ c
unfolding guess value_of
guess-utf8 c t s = go (cases c)
  where
    go : Cases c → guess (utf8 c ++ t) ≡ c
    go (one h q) = rw (q, lt-ltb c 0x80 h)
    go (two l h q) = rw (q, le-ltb (0xC0 + c / 0x40) 0x80 (omega arith), lt-ltb (0xC0 + c / 0x40) 0xE0 (omega arith)) (omega arith)
    go (three l h q) =
        let a = 0xE0 + c / 0x1000 in
        rw (q, le-ltb a 0x80 (omega arith), le-ltb a 0xE0 (omega arith), lt-ltb a 0xF0 (omega arith)) (omega arith)
    go (four l q) =
        let a = 0xF0 + c / 0x40000 in
        rw (q, le-ltb a 0x80 (omega arith), le-ltb a 0xE0 (omega arith), le-ltb a 0xF0 (omega arith))
        (simp low_six (from_sixes c (scalar_below c s)))

-- ---- the character that is found

pub character_utf8 : (c : ℕ) (t : List ℕ) → is_scalar c ≡ true → character (utf8 c ++ t) ≡ some c
unfolding character
character_utf8 c t s = rw (guess-utf8 c t s, s, begins_append (utf8 c) t)

pub character_nil : character [] ≡ none
unfolding character guess value_of utf8 is_scalar
character_nil = refl

module _ (s : List ℕ) (c : ℕ) (found : character s ≡ some c) where
  character_found : (guess s ≡ c) × (is_scalar (guess s) && begins (utf8 (guess s)) s ≡ true)
  unfolding character
  character_found = go (is_scalar (guess s) && begins (utf8 (guess s)) s) refl found
    where
      go : (b : Bool) → is_scalar (guess s) && begins (utf8 (guess s)) s ≡ b → cond b (some (guess s)) none ≡ some c
          → (guess s ≡ c) × (is_scalar (guess s) && begins (utf8 (guess s)) s ≡ true)
      go true e q = (some-injective _ _ q, e)
      go false e q = absurd (none-ne-some c q)

  pub character_guess : guess s ≡ c
  character_guess = character_found.0

  pub character_scalar : is_scalar c ≡ true
  character_scalar = rw (← character_guess) (and_left (is_scalar (guess s)) _ character_found.1)

  pub character_split : s ≡ utf8 c ++ drop (length (utf8 c)) s
  character_split = begins_split (utf8 c) s (rw character_guess at (and_right (is_scalar (guess s)) _ character_found.1))

pub character_some : (s : List ℕ) (c : ℕ) → character s ≡ some c → (is_scalar c ≡ true) × (s ≡ utf8 c ++ drop (length (utf8 c)) s)
character_some s c e = (character_scalar s c e, character_split s c e)

pub character_is : (s : List ℕ) (c : ℕ) (t : List ℕ) → is_scalar c ≡ true → s ≡ utf8 c ++ t → character s ≡ some c
character_is s c t h e = ap character e ∙ character_utf8 c t h

pub character_none : (s : List ℕ) → character s ≡ none → (c : ℕ) (t : List ℕ) → is_scalar c ≡ true → s ≡ utf8 c ++ t → ⊥
character_none s n c t h e = none-ne-some c (sym n ∙ character_is s c t h e)

-- a character at the front is one character, and what follows it is one list
pub utf8_once : {c c' : ℕ} {s s' : List ℕ} → is_scalar c ≡ true → is_scalar c' ≡ true → utf8 c ++ s ≡ utf8 c' ++ s' → (c ≡ c') × (s ≡ s')
utf8_once {c} {c'} {s} {s'} h h' e =
    let q : c ≡ c' = some-injective _ _ (sym (character_utf8 c s h) ∙ character_is _ c' s' h' e) in
    (q, sym (drop-append_seam (utf8 c) s) ∙ ap (drop (length (utf8 c))) (e ∙ rw q) ∙ drop-append_seam (utf8 c) s')

-- ---- by the first byte

pub character_low : (a : ℕ) (s : List ℕ) → a < 0x80 → character (a ∷ s) ≡ some a
character_low a s h = character_is (a ∷ s) a s (scalar_ascii a h) (rw (utf8_low a h))

pub low_first : {a c : ℕ} {s t : List ℕ} → a < 0x80 → is_scalar c ≡ true → a ∷ s ≡ utf8 c ++ t → (a ≡ c) × (s ≡ t)
low_first {a} {c} {s} {t} h k e = utf8_once (scalar_ascii a h) k (ap (λ (w : List ℕ). w ++ s) (utf8_low a h) ∙ e)

pub character_high : (a : ℕ) (s : List ℕ) (c : ℕ) → 0x80 ≤ a → character (a ∷ s) ≡ some c → 0x80 ≤ c
character_high a s c l e = go (ltb c 0x80) refl
  where
    go : (b : Bool) → ltb c 0x80 ≡ b → 0x80 ≤ c
    go false q = ltb-false c 0x80 q
    go true q =
        let h = ltb-true c 0x80 q in
        let z : a ≡ c = cc (character_split (a ∷ s) c e, utf8_low c h) in
        omega arith

-- ---- by the table

pub character_size : (s : List ℕ) (c : ℕ) → character s ≡ some c → length (utf8 c) ≡ size_of (get_or s 0 0)
character_size s c e =
    let (a, w, q) = utf8_some c in
    let z : get_or s 0 0 ≡ a = rw (character_split s c e, q) in
    sym (ap size_of z ∙ size_utf8 c a w (character_scalar s c e) q)

pub character_take : (s : List ℕ) (c : ℕ) → character s ≡ some c → take (size_of (get_or s 0 0)) s ≡ utf8 c
character_take s c e =
    rw (← character_size s c e)
    (ap (take (length (utf8 c))) (character_split s c e) ∙ take-append_seam (utf8 c) _)

pub formed_character : (s : List ℕ) → well_formed (take (size_of (get_or s 0 0)) s) ≡ true → character s ≡ some (guess s)
formed_character s f =
    let n = size_of (get_or s 0 0) in
    let (c, h, e) = formed_scalar (take n s) f in
    let q : character s ≡ some c = character_is s c (drop n s) h (sym (take-append-drop n s) ∙ ap (λ (w : List ℕ). w ++ drop n s) e) in
    q ∙ ap some (sym (character_guess s c q))

pub unformed_character : (s : List ℕ) → well_formed (take (size_of (get_or s 0 0)) s) ≡ false → character s ≡ none
unformed_character s f = go (character s) refl
  where
    go : (o : Option ℕ) → character s ≡ o → o ≡ none
    go none e = refl
    go (some c) e = absurd (true-false (ap well_formed (character_take s c e) ∙ scalar_formed c (character_scalar s c e)) f)
