-- All that the program prints for a list and a standard input, in one table under one statement, worked out by hand; row b is document 01's
-- own. antt computes the answer, the cut and the decimals. Then `too long`, for every list.
use mathlib.Core.Path.{◌≡◌, refl}
use mathlib.Core.List.{List, [], ◌∷◌, map}
use Prim.Native.Nat.{ℕ, ◌<◌}
use Prim.Native.String.{String}
use borrow.Author.Tests.{lt-ltb}
use lib.ListN.{length, replicate}
use Rattle.xml.specs.Utf8.{utf8, is_scalar}
use Rattle.xml.specs.Notation.{bytes}
use Rattle.xml.specs.Productions.{is_char, is_space, is_name_start, is_name_more, is_name}
use Rattle.xml.specs.Character.{value_of as number, guess, character, starts, run}
use Rattle.utf8.specs.Place.{ends_at}
use Rattle.chars.specs.Name.{name_of}
use Rattle.chars.specs.Space.{space_end}
use Rattle.chars.specs.Check.{check_of}
use Rattle.paths.specs.Path.{print_step, print_line}
use Rattle.paths.specs.Reader.{read_all, kind_at, test_at, step_at, steps, attribute_at, mark_at, end_at, line_at}
use Rattle.paths.specs.Judge.{within, sound_at, lines, judge, list_answer, list_paths}
use Rattle.matcher.specs.Says.{verdict_of}
use Rattle.readers.specs.Read.{expect, seek, skip, space_of, many}
use Rattle.readers.specs.Plain.{is_mark, text_of}
use Rattle.readers.specs.Value.{char_ref_of, entity_ref_of, reference_of, piece_of, quoted_of, value_of}
use Rattle.readers.specs.Named.{before, eq_of, piece_named, attribute_of, gather, tag_of, end_tag_of, small_tag}
use Rattle.readers.specs.Named.{other_encoding}
use Rattle.tags.specs.Tag.{tag_at, end_tag_at}
use Rattle.items.specs.Item.{declares, kind_of, item_at}
use Rattle.document.specs.Place.{blank}
use Rattle.document.specs.Judge.{start_of, scan_from, scanned, judge_of}
use Rattle.trees.specs.Grown.{tokens_from, tokens_of, forest_of}
use Rattle.trees.specs.Written.{verdicts, cut_of, count_of}
use Rattle.cutter.specs.Answer.{answer_of}
use Rattle.report.specs.Decimal.{decimal, decimal_by}
use Rattle.report.specs.Printed.{printed}

pub record Row : Type 0 where
  pub list : String
  pub input : String
  pub prints : String

infix 10 ◌of◌prints◌
abbrev ◌of◌prints◌ : String → String → String → Row
l of d prints s = record { list = l; input = d; prints = s }

pub rows : List Row
rows =
    -- b: all that document 01 shows
    ("//v\n" of "<g><p><v/></p></g>" prints "kept 1 21\n<g><p><v></v></p></g>\n")
    -- a: no list
    ∷ ("" of "<g/>" prints "kept 0 7\n<g></g>\n")
    -- i, j, k: refused
    ∷ ("//v\n" of "<g><v></g>" prints "refused 7 6\n")
    ∷ ("//v\n" of "" prints "refused 7 0\n")
    ∷ ("v\n" of "<g/>" prints "refused 2 1\n")
    ∷ []

pub examples : map (λ r. printed (bytes r.list) (bytes r.input)) rows ≡ map (λ r. bytes r.prints) rows
unfolding rows printed decimal decimal_by answer_of judge_of other_encoding scanned scan_from start_of blank check_of space_end cut_of
    count_of verdicts verdict_of forest_of tokens_of tokens_from item_at kind_of declares ends_at tag_at end_tag_at tag_of end_tag_of
    piece_named before gather attribute_of small_tag text_of eq_of space_of skip value_of quoted_of many piece_of is_mark reference_of
    entity_ref_of char_ref_of is_char name_of expect seek starts run character guess number utf8 is_scalar is_space is_name is_name_start
    is_name_more list_paths list_answer judge lines sound_at within line_at steps read_all end_at mark_at attribute_at step_at test_at
    kind_at print_step print_line
examples = refl

-- "else it prints `too long` and LF and nothing more, for every list"
pub too_long : (list input : List ℕ) → 32768 < length input → printed list input ≡ bytes "too long\n"
unfolding printed
too_long list input h = rw (lt-ltb 32768 (length input) h)

-- 32,769 bytes
pub one_too_many : printed (bytes "v\n") (replicate 32769 60) ≡ bytes "too long\n"
unfolding printed
one_too_many = refl
