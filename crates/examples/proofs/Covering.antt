-- Worked examples, each table under one statement that antt computes: narrow lists, wide ones, and beside them the answers by the words of
-- document 02. In order: its own examples; names; where steps go; the first and the last step; attribute tests; self and
-- descendant-or-self steps; marks and lists; refusals.
use mathlib.Core.Path.{◌≡◌, refl}
use mathlib.Core.List.{List, [], ◌∷◌, map}
use Prim.Native.Nat.{ℕ}
use Rattle.std.specs.Prelude.{Bool, true, false, Result, Ok, Err}
use Rattle.xml.specs.Utf8.{utf8, is_scalar}
use Rattle.xml.specs.Notation.{bytes}
use Rattle.xml.specs.Productions.{is_char, is_name_start, is_name_more, is_name, except}
use Rattle.xml.specs.Character.{value_of, guess, character, starts, run}
use Rattle.chars.specs.Name.{name_of}
use Rattle.paths.specs.Path.{print_step, print_line, is_value}
use Rattle.paths.specs.Reader.{read_all, kind_at, test_at, step_at, steps, attribute_at, mark_at, end_at, line_at}
use Rattle.paths.specs.Judge.{within, sound_at, lines, judge, list_answer, list_paths}
use Rattle.covers.specs.Test.{covers, stands_for, covered}
use Rattle.paths.specs.declared.ListError.TheVariants.{Malformed, TooLarge}
use Rattle.covers.specs.Answer.{refused, cover_answer}
use Rattle.covers.specs.declared.Which.TheVariants.{Narrow, Wide}
use Rattle.covers.specs.declared.CoverError.{CoverError}

pub record Row : Type 0 where
  pub narrow : List ℕ
  pub wide : List ℕ
  pub answer : Result Bool CoverError

infix 10 ◌by◌gives◌
abbrev ◌by◌gives◌ : List ℕ → List ℕ → Result Bool CoverError → Row
n by w gives a = record { narrow = n; wide = w; answer = a }

-- "`//v`, `/g//v` and `//p/v` cover `/g/p/v`; `/g/v` does not. `/a//*/b` and `/a/*//b` select the same elements and neither covers the
-- other."
pub of_document02 : List Row
of_document02 =
    (bytes "/g/p/v\n" by bytes "//v\n" gives Ok true)
    ∷ (bytes "/g/p/v\n" by bytes "/g//v\n" gives Ok true)
    ∷ (bytes "/g/p/v\n" by bytes "//p/v\n" gives Ok true)
    ∷ (bytes "/g/p/v\n" by bytes "/g/v\n" gives Ok false)
    ∷ (bytes "/a/*//b\n" by bytes "/a//*/b\n" gives Ok false)
    ∷ (bytes "/a//*/b\n" by bytes "/a/*//b\n" gives Ok false)
    ∷ []

-- the other way round, what is covered does not cover
pub other_way : List Row
other_way =
    (bytes "//v\n" by bytes "/g/p/v\n" gives Ok false)
    ∷ (bytes "/g//v\n" by bytes "/g/p/v\n" gives Ok false)
    ∷ (bytes "//p/v\n" by bytes "/g/p/v\n" gives Ok false)
    ∷ (bytes "/g/p/v\n" by bytes "/g/p/v\n" gives Ok true)
    ∷ []

-- "each test of b being `*` or the same name test"
pub names : List Row
names =
    (bytes "/v\n" by bytes "/*\n" gives Ok true)
    ∷ (bytes "/*\n" by bytes "/*\n" gives Ok true)
    ∷ (bytes "/*\n" by bytes "/v\n" gives Ok false)
    ∷ (bytes "/v\n" by bytes "/w\n" gives Ok false)
    ∷ (bytes "/v\n" by bytes "/vv\n" gives Ok false)
    ∷ (bytes "/vv\n" by bytes "/v\n" gives Ok false)
    ∷ (bytes "/g/p/v\n" by bytes "/*/*/*\n" gives Ok true)
    ∷ []

-- "in rising order": strictly; "a child step of b must go to a child step of a, right after the one before"; "a descendant step to any
-- later one"
pub order : List Row
order =
    (bytes "/a\n" by bytes "//a//a\n" gives Ok false)
    ∷ (bytes "/a/a\n" by bytes "//a//a\n" gives Ok true)
    ∷ (bytes "/a/b\n" by bytes "//b//a\n" gives Ok false)
    ∷ (bytes "//v\n" by bytes "/v\n" gives Ok false)
    ∷ (bytes "//v\n" by bytes "//v\n" gives Ok true)
    ∷ (bytes "/v\n" by bytes "//v\n" gives Ok true)
    ∷ (bytes "/g//v\n" by bytes "/g/v\n" gives Ok false)
    ∷ (bytes "/a/b/c/d\n" by bytes "/a//d\n" gives Ok true)
    ∷ (bytes "/a/b/c/d\n" by bytes "//b//d\n" gives Ok true)
    ∷ (bytes "/a/b/c/d\n" by bytes "//b/d\n" gives Ok false)
    ∷ (bytes "/a/b/a/b/c\n" by bytes "//a/b/c\n" gives Ok true)
    ∷ []

-- "the first to a's first"; "last to last"
pub ends : List Row
ends =
    (bytes "/p/v\n" by bytes "/v\n" gives Ok false)
    ∷ (bytes "/g/p/v\n" by bytes "/p/v\n" gives Ok false)
    ∷ (bytes "/g/p/v\n" by bytes "/g/p\n" gives Ok false)
    ∷ (bytes "/g/p/v\n" by bytes "//p\n" gives Ok false)
    ∷ (bytes "/v\n" by bytes "/v/v\n" gives Ok false)
    ∷ []

-- "b must have no attribute test or the same one"
pub tests : List Row
tests =
    (bytes "/g/v[@k=\"x\"]\n" by bytes "//v\n" gives Ok true)
    ∷ (bytes "/g/v[@k=\"x\"]\n" by bytes "//v[@k=\"x\"]\n" gives Ok true)
    ∷ (bytes "/g/v[@k=\"x\"]\n" by bytes "//v[@k=\"y\"]\n" gives Ok false)
    ∷ (bytes "/g/v[@k=\"x\"]\n" by bytes "//v[@l=\"x\"]\n" gives Ok false)
    ∷ (bytes "/g/v[@k=\"\"]\n" by bytes "//v[@k=\"x\"]\n" gives Ok false)
    ∷ (bytes "/g/v\n" by bytes "//v[@k=\"x\"]\n" gives Ok false)
    ∷ (bytes "/g/v[@k=\"x\"]\n" by bytes "/v[@k=\"x\"]\n" gives Ok false)
    ∷ []

-- "A path with a self or descendant-or-self step covers only the same path, and only the same path covers it."
pub others : List Row
others =
    (bytes "/g/self::g\n" by bytes "/g/self::g\n" gives Ok true)
    ∷ (bytes "/g/self::g\n" by bytes "/g\n" gives Ok false)
    ∷ (bytes "/g/self::g\n" by bytes "//g\n" gives Ok false)
    ∷ (bytes "/g\n" by bytes "/g/self::g\n" gives Ok false)
    ∷ (bytes "/g/self::g\n" by bytes "/g/self::*\n" gives Ok false)
    ∷ (bytes "/g\n" by bytes "/descendant-or-self::g\n" gives Ok false)
    ∷ (bytes "/descendant-or-self::g\n" by bytes "//g\n" gives Ok false)
    ∷ (bytes "/descendant-or-self::g\n" by bytes "/descendant-or-self::g\n" gives Ok true)
    ∷ (bytes "/self::g\n" by bytes "/self::g\n" gives Ok true)
    ∷ (bytes "/self::g\n" by bytes "//*\n" gives Ok false)
    ∷ (bytes "/self::g[@k=\"x\"]\n" by bytes "/self::g\n" gives Ok false)
    ∷ (bytes "/self::g[@k=\"x\"]\n" by bytes "/self::g[@k=\"x\"]\n" gives Ok true)
    ∷ []

-- "each narrow path is covered by a wide one, marked if the narrow is"
pub marks : List Row
marks =
    (bytes "/v #\n" by bytes "//v #\n" gives Ok true)
    ∷ (bytes "/v\n" by bytes "//v #\n" gives Ok true)
    ∷ (bytes "/v #\n" by bytes "//v\n" gives Ok false)
    ∷ (bytes "/v #\n" by bytes "//v\n/v #\n" gives Ok true)
    ∷ (bytes "/v #\n" by bytes "//v\n/w #\n" gives Ok false)
    ∷ (bytes "/g/self::g\n" by bytes "/g/self::g #\n" gives Ok true)
    ∷ (bytes "/g/self::g #\n" by bytes "/g/self::g\n" gives Ok false)
    ∷ (bytes "/v\n/w\n" by bytes "//v\n//w\n" gives Ok true)
    ∷ (bytes "/v\n/w\n" by bytes "//v\n" gives Ok false)
    ∷ (bytes "/v\n/v\n" by bytes "//v\n" gives Ok true)
    ∷ ([] by [] gives Ok true)
    ∷ ([] by bytes "/v\n" gives Ok true)
    ∷ (bytes "/v\n" by [] gives Ok false)
    ∷ []

-- "Refusals: 1 to 3 of the narrow list, then of the wide one"
pub refusals : List Row
refusals =
    (bytes "/v" by bytes "/w" gives Err (refused Narrow (Malformed 1)))
    ∷ (bytes "/v\n/w" by bytes "w\n" gives Err (refused Narrow (Malformed 2)))
    ∷ (bytes "/v\n" by bytes "/w\nw\n" gives Err (refused Wide (Malformed 2)))
    ∷ ([] by bytes "w\n" gives Err (refused Wide (Malformed 1)))
    ∷ (bytes "/a/a/a/a/a/a/a/a/a/a/a/a/a/a/a/a/a\n" by bytes "w\n" gives Err (refused Narrow (TooLarge 1)))
    ∷ (bytes "/a/a/a/a/a/a/a/a/a/a/a/a/a/a/a/a\n" by bytes "/a/a/a/a/a/a/a/a/a/a/a/a/a/a/a/a/a\n" gives Err (refused Wide (TooLarge 1)))
    ∷ []

abbrev computed : List Row → List (Result Bool CoverError)
computed = map (λ r. cover_answer r.narrow r.wide)

abbrev expected : List Row → List (Result Bool CoverError)
expected = map (λ r. r.answer)

pub lists_are_answered : (computed of_document02 ≡ expected of_document02) × (computed other_way ≡ expected other_way)
    × (computed names ≡ expected names) × (computed order ≡ expected order) × (computed ends ≡ expected ends)
    × (computed tests ≡ expected tests)
    × (computed others ≡ expected others) × (computed marks ≡ expected marks) × (computed refusals ≡ expected refusals)
unfolding cover_answer covered stands_for covers list_paths list_answer lines judge sound_at within line_at end_at mark_at attribute_at
    steps step_at test_at kind_at read_all print_step print_line is_value name_of run character starts utf8 value_of guess is_scalar is_char
    is_name_start is_name_more is_name except of_document02 other_way names order ends tests others marks refusals
lists_are_answered = (refl, refl, refl, refl, refl, refl, refl, refl, refl)
