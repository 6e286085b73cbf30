-- Worked examples of the definitions that the contracts cite, each table under one statement that antt computes: texts, and beside them the
-- answers by Unicode and the Recommendation.
use mathlib.Core.Path.{◌≡◌, refl}
use mathlib.Core.List.{List, [], ◌∷◌}
use Prim.Native.Nat.{ℕ}
use Rattle.xml.specs.Utf8.{utf8, is_scalar}
use Rattle.xml.specs.Notation.{bytes}
use Rattle.xml.specs.Productions.{is_char, is_space, is_name_start, is_name_more, is_name}
use Rattle.xml.specs.Character.{value_of, guess, character, starts, run}
use Rattle.utf8.specs.Place.{ends_at}
use Rattle.utf8.proofs.Examples.{Row, ◌at◌gives◌, answers, expected}
use Rattle.chars.specs.Check.{check_of}
use Rattle.chars.specs.Space.{space_end}
use Rattle.chars.specs.Name.{name_of, name_at}
use Rattle.std.specs.Prelude.{Option, Some, None, Result, Ok, Err}
use Rattle.chars.specs.declared.whole.CharError.{CharError}

-- the place is not asked for
pub checks : List (Row (Result Unit CharError))
checks =
    ([] at 0 gives (Ok tt))
    ∷ (bytes "<a>\t\r\n</a>" at 0 gives (Ok tt))
    ∷ ((0xEF ∷ 0xBB ∷ 0xBF ∷ 0x61 ∷ []) at 0 gives (Ok tt))
    ∷ ((0xF4 ∷ 0x8F ∷ 0xBF ∷ 0xBD ∷ []) at 0 gives (Ok tt))
    ∷ ((0x61 ∷ 0x00 ∷ []) at 0 gives Err (record { valid_up_to = 1 }))
    ∷ ((0x61 ∷ 0xC3 ∷ 0xA9 ∷ 0x1F ∷ []) at 0 gives Err (record { valid_up_to = 3 }))
    ∷ ((0x61 ∷ 0xEF ∷ 0xBF ∷ 0xBE ∷ []) at 0 gives Err (record { valid_up_to = 1 }))
    ∷ ((0x61 ∷ 0xED ∷ 0xA0 ∷ 0x80 ∷ []) at 0 gives Err (record { valid_up_to = 1 }))
    ∷ ((0x61 ∷ 0x62 ∷ 0xC3 ∷ []) at 0 gives Err (record { valid_up_to = 2 }))
    ∷ ((0xC3 ∷ 0xA9 ∷ 0xA9 ∷ 0x61 ∷ []) at 0 gives Err (record { valid_up_to = 2 }))
    ∷ []

pub checks_computed : answers (λ s k. check_of s) checks ≡ expected checks
unfolding checks check_of run starts character guess value_of utf8 is_scalar is_char
checks_computed = refl

-- é in one code point and in two are both names; U+0300 and digits start none; a bad byte ends a name
pub names : List (Row (Option ℕ))
names =
    (bytes "a-1.b:c d" at 0 gives Some 7)
    ∷ (bytes "<a>" at 1 gives Some 2)
    ∷ ((0xC3 ∷ 0xA9 ∷ 0x3E ∷ []) at 0 gives Some 2)
    ∷ ((0x65 ∷ 0xCC ∷ 0x81 ∷ 0x3E ∷ []) at 0 gives Some 3)
    ∷ ((0x61 ∷ 0xC3 ∷ 0x28 ∷ []) at 0 gives Some 1)
    ∷ ((0x61 ∷ 0xC1 ∷ 0xA1 ∷ []) at 0 gives Some 1)
    ∷ (bytes "1a" at 0 gives None)
    ∷ (bytes "-a" at 0 gives None)
    ∷ (bytes " a" at 0 gives None)
    ∷ ((0xCC ∷ 0x81 ∷ 0x65 ∷ []) at 0 gives None)
    ∷ ((0xC3 ∷ 0x97 ∷ []) at 0 gives None)
    ∷ (bytes "a" at 1 gives None)
    ∷ (bytes "a" at 7 gives None)
    ∷ []

pub names_computed : answers name_at names ≡ expected names
unfolding names name_at name_of ends_at run starts character guess value_of utf8 is_scalar is_name_start is_name_more is_name
names_computed = refl

pub spaces : List (Row ℕ)
spaces =
    (bytes " \t\r\nx" at 0 gives 4)
    ∷ (bytes "a  b" at 1 gives 3)
    ∷ (bytes "ab" at 1 gives 1)
    ∷ (bytes "a  " at 1 gives 3)
    ∷ (bytes "  " at 5 gives 5)
    ∷ ((0x20 ∷ 0xC2 ∷ 0xA0 ∷ []) at 0 gives 1)
    ∷ []

pub spaces_computed : answers space_end spaces ≡ expected spaces
unfolding spaces space_end ends_at run starts character guess value_of utf8 is_scalar is_space
spaces_computed = refl
