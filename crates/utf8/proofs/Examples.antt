-- Worked examples of `sequence_at`, as one table under one statement that antt computes: texts, and beside them the answers by Unicode.
-- The rows of such a table, and what they have, are for the examples of other crates too.
use mathlib.Core.Path.{◌≡◌, refl}
use mathlib.Core.List.{List, [], ◌∷◌, map}
use Prim.Native.Nat.{ℕ}
use Rattle.xml.specs.Utf8.{utf8, is_scalar}
use Rattle.xml.specs.Notation.{bytes}
use Rattle.xml.specs.Character.{value_of, guess, character}
use Rattle.utf8.specs.Sequence.{sequence_at}
use Rattle.std.specs.Prelude.{Option, Some, None}

-- a text, a place in it and the answer there
pub record Row (A : Type 0) : Type 0 where
  pub doc : List ℕ
  pub place : ℕ
  pub answer : A

infix 10 ◌at◌gives◌
abbrev pub ◌at◌gives◌ : {A : Type 0} → List ℕ → ℕ → A → Row A
s at k gives a = record { doc = s; place = k; answer = a }

-- what f answers in each row, and what the rows have
abbrev pub answers : {A : Type 0} → (List ℕ → ℕ → A) → List (Row A) → List A
answers f = map (λ r. f r.doc r.place)

abbrev pub expected : {A : Type 0} → List (Row A) → List A
expected = map (λ r. r.answer)

-- one-byte characters, é, €, 😀 and the last of each size; then overlong forms, a surrogate, past U+10FFFF, cut off, a lone later byte
pub sequences : List (Row (Option (ℕ × ℕ)))
sequences =
    (bytes "ab" at 1 gives Some (0x62, 2))
    ∷ ((0xC3 ∷ 0xA9 ∷ []) at 0 gives Some (0xE9, 2))
    ∷ ((0xE2 ∷ 0x82 ∷ 0xAC ∷ []) at 0 gives Some (0x20AC, 3))
    ∷ ((0x61 ∷ 0xF0 ∷ 0x9F ∷ 0x98 ∷ 0x80 ∷ []) at 1 gives Some (0x1F600, 5))
    ∷ ((0xEF ∷ 0xBF ∷ 0xBF ∷ []) at 0 gives Some (0xFFFF, 3))
    ∷ ((0xF4 ∷ 0x8F ∷ 0xBF ∷ 0xBF ∷ []) at 0 gives Some (0x10FFFF, 4))
    ∷ ((0xC0 ∷ 0x80 ∷ []) at 0 gives None)
    ∷ ((0xE0 ∷ 0x9F ∷ 0xBF ∷ []) at 0 gives None)
    ∷ ((0xF0 ∷ 0x8F ∷ 0xBF ∷ 0xBF ∷ []) at 0 gives None)
    ∷ ((0xED ∷ 0xA0 ∷ 0x80 ∷ []) at 0 gives None)
    ∷ ((0xF4 ∷ 0x90 ∷ 0x80 ∷ 0x80 ∷ []) at 0 gives None)
    ∷ ((0xE2 ∷ 0x82 ∷ []) at 0 gives None)
    ∷ ((0xC3 ∷ 0xA9 ∷ []) at 1 gives None)
    ∷ (bytes "ab" at 2 gives None)
    ∷ (bytes "ab" at 9 gives None)
    ∷ []

pub sequences_computed : answers sequence_at sequences ≡ expected sequences
unfolding sequences sequence_at character guess value_of utf8 is_scalar
sequences_computed = refl
