-- Worked examples of the number of name tests, a table under one statement: lists, documents, and how many tests are tried, worked out by
-- document 02's words. antt computes the number from the bytes.
use mathlib.Core.Path.{◌≡◌, refl}
use mathlib.Core.List.{List, [], ◌∷◌, map}
use Prim.Native.Nat.{ℕ}
use Prim.Native.String.{String}
use lib.Count.{ones, ones_in}
use Rattle.xml.specs.Utf8.{utf8, is_scalar}
use Rattle.xml.specs.Notation.{bytes}
use Rattle.xml.specs.Productions.{is_char, except, is_space, is_name_start, is_name_more, is_name}
use Rattle.xml.specs.Character.{value_of as number, guess, character, starts, run}
use Rattle.utf8.specs.Place.{ends_at}
use Rattle.chars.specs.Name.{name_of}
use Rattle.paths.specs.Path.{is_value, print_step, print_line}
use Rattle.paths.specs.Reader.{read_all, kind_at, test_at, step_at, steps, attribute_at, mark_at, end_at, line_at}
use Rattle.paths.specs.Judge.{within, sound_at, lines, judge, list_answer, list_paths}
use Rattle.lookup.specs.Index.{padded}
use Rattle.compiled.specs.Bits.{column, stays_of, goes_of, far_of, fit_of}
use Rattle.matcher.specs.Fit.{fit_for}
use Rattle.matcher.specs.State.{flood, hits_of, carried, carried_at, fresh_state, deeper_of, state_of, tried_of, tests_at, tests_by}
use Rattle.readers.specs.Read.{expect, seek, skip, space_of, many}
use Rattle.readers.specs.Plain.{is_mark, text_of}
use Rattle.readers.specs.Value.{char_ref_of, entity_ref_of, reference_of, piece_of, quoted_of, value_of}
use Rattle.readers.specs.Named.{before, eq_of, piece_named, attribute_of, gather, tag_of, end_tag_of, small_tag}
use Rattle.tags.specs.Tag.{tag_at, end_tag_at}
use Rattle.items.specs.Item.{declares, kind_of, item_at}
use Rattle.document.specs.Judge.{start_of}
use Rattle.trees.specs.Grown.{tokens_from, tokens_of, forest_of}
use Rattle.trees.specs.Written.{name_tests, tests_of}

pub record Row : Type 0 where
  pub list : List ℕ
  pub doc : List ℕ
  pub tests : ℕ

infix 10 ◌of◌tries◌
abbrev ◌of◌tries◌ : String → String → ℕ → Row
l of d tries n = record { list = bytes l; doc = bytes d; tests = n }

pub rows : List Row
rows =
    -- no step
    ("" of "<g/>" tries 0)
    -- a first descendant step at each element, a first child step at the root alone
    ∷ ("//v\n" of "<g><p><v/></p></g>" tries 3)
    ∷ ("/v\n" of "<g><p><v/></p></g>" tries 1)
    -- one step at each level
    ∷ ("/g/p/v\n" of "<g><p><v/></p></g>" tries 3)
    -- step 1 at a, c and b; step 2 at c and b, whether they pass or not
    ∷ ("//a/b\n" of "<a><c/><b/></a>" tries 5)
    -- a self step where the step before takes the place; it does not pass, so step 3 is not tried
    ∷ ("/g/self::g\n" of "<g/>" tries 2)
    ∷ ("/g/self::h/v\n" of "<g><v/></g>" tries 2)
    -- before a first self step is place 0: it is never tried
    ∷ ("/self::g\n" of "<g><g/></g>" tries 0)
    ∷ ("/descendant-or-self::g\n" of "<g><g/></g>" tries 2)
    -- once at an element, however many ways there are: step 2 at the second a from the first and from itself
    ∷ ("//a/descendant-or-self::a\n" of "<a><a/></a>" tries 4)
    -- repeated lines count each
    ∷ ("//v\n//v\n" of "<g><p><v/></p></g>" tries 6)
    -- inside a kept entry too
    ∷ ("//v #\n" of "<g><v><n/></v></g>" tries 3)
    -- a test of an attribute changes nothing
    ∷ ("//v[@k=\"x\"]\n" of "<g><v/></g>" tries 2)
    -- two elements times two steps: the most that there can be
    ∷ ("//*/self::*\n" of "<g><p/></g>" tries 4)
    ∷ []

pub counts : map (λ r. tests_of r.list r.doc) rows ≡ map (λ r. r.tests) rows
unfolding rows tests_of name_tests tests_by tests_at tried_of hits_of flood carried carried_at fresh_state deeper_of state_of fit_for column
    padded stays_of goes_of far_of fit_of ones ones_in forest_of tokens_of tokens_from start_of item_at kind_of declares ends_at tag_at
    end_tag_at tag_of end_tag_of piece_named before gather attribute_of small_tag text_of eq_of space_of skip value_of quoted_of many
    piece_of is_mark reference_of entity_ref_of char_ref_of is_char name_of expect seek starts run character guess number utf8 is_scalar
    is_space is_name is_name_start is_name_more list_paths list_answer judge lines sound_at within line_at steps read_all end_at mark_at
    attribute_at step_at test_at kind_at print_step print_line is_value except
counts = refl
