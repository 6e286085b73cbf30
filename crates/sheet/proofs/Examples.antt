-- Answers worked out by document 02's words, one table under one statement: a list, a document and the room, and beside them the three
-- numbers and the front of the buffer. antt computes the numbers, and the whole buffer after, from a buffer of dots. What a table has in it
-- is shown in the crates rows and tables.
use mathlib.Core.Path.{◌≡◌, refl}
use mathlib.Core.List.{List, [], ◌∷◌, ◌++◌, map}
use Prim.Native.Nat.{ℕ}
use Prim.Native.String.{String}
use lib.ListN.{length, drop, replicate}
use Rattle.xml.specs.Utf8.{utf8, is_scalar}
use Rattle.xml.specs.Notation.{bytes}
use Rattle.xml.specs.Productions.{is_char, is_space, is_name_start, is_name_more, is_name}
use Rattle.xml.specs.Character.{value_of as number, guess, character, starts, run}
use Rattle.utf8.specs.Place.{ends_at}
use Rattle.chars.specs.Name.{name_of}
use Rattle.chars.specs.Space.{space_end}
use Rattle.chars.specs.Check.{check_of}
use Rattle.paths.specs.Path.{print_step, print_line}
use Rattle.paths.specs.Reader.{read_all, kind_at, test_at, step_at, steps, attribute_at, mark_at, end_at, line_at}
use Rattle.paths.specs.Judge.{within, sound_at, lines as list_lines, judge, list_answer, list_paths}
use Rattle.matcher.specs.Says.{verdict_of}
use Rattle.readers.specs.Read.{expect, seek, skip, space_of, many}
use Rattle.readers.specs.Plain.{is_mark, text_of}
use Rattle.readers.specs.Value.{char_ref_of, entity_ref_of, reference_of, piece_of, quoted_of, value_of}
use Rattle.readers.specs.Named.{before, eq_of, piece_named, attribute_of, gather, tag_of, end_tag_of, small_tag, other_encoding}
use Rattle.tags.specs.Tag.{tag_at, end_tag_at}
use Rattle.items.specs.Item.{declares, kind_of, item_at}
use Rattle.document.specs.Place.{blank}
use Rattle.document.specs.Judge.{start_of, scan_from, scanned, judge_of}
use Rattle.trees.specs.Grown.{tokens_from, tokens_of, forest_of}
use Rattle.trees.specs.Written.{verdicts, count_of}
use Rattle.rows.specs.Field.{field, record_of, header}
use Rattle.rows.specs.Text.{line_by, lines_from, lines, content, said_of}
use Rattle.rows.specs.Table.{table_of}
use Rattle.sheet.specs.Answer.{answer_of, bytes_after, number_of, second_of, third_of}

-- what is handed back: three numbers, and the buffer after
pub record Outcome : Type 0 where
  pub first : ℕ
  pub second : ℕ
  pub third : ℕ
  pub buffer : List ℕ

pub record Row : Type 0 where
  pub list : List ℕ
  pub doc : List ℕ
  pub room : ℕ
  pub outcome : Outcome

abbrev dots : ℕ → List ℕ
dots n = replicate n 46

infix 10 ◌of◌within◌gives◌and◌
abbrev ◌of◌within◌gives◌and◌ : String → String → ℕ → String → ℕ → Row
l of d within room gives w and n =
    record {
      list = bytes l;
      doc = bytes d;
      room = room;
      outcome =
          record { first = 0; second = length (bytes w); third = n; buffer = bytes w ++ drop (length (bytes w)) (dots room) };
    }

infix 10 ◌of◌within◌refused◌at◌
abbrev ◌of◌within◌refused◌at◌ : String → String → ℕ → ℕ → ℕ → Row
l of d within room refused n at k =
    record { list = bytes l; doc = bytes d; room = room; outcome = record { first = n; second = k; third = 0; buffer = dots room } }

pub rows : List Row
rows =
    -- "the length written and the elements selected"; what stands behind the table stays
    ("//v\n" of "<g><v>a,b</v></g>" within 24 gives "path,text\r\ng/v,\"a,b\"\r\n" and 1)
    -- "The mark # changes nothing here"; room for the table and no more
    ∷ ("//v #\n" of "<g><v>a,b</v></g>" within 22 gives "path,text\r\ng/v,\"a,b\"\r\n" and 1)
    -- none selected
    ∷ ("" of "<g/>" within 11 gives "path,text\r\n" and 0)
    -- "9 giving the length of the whole table": one byte too little, and none
    ∷ ("//v\n" of "<g><v>a,b</v></g>" within 21 refused 9 at 22)
    ∷ ("" of "<g/>" within 0 refused 9 at 11)
    -- "as for a cut": a line of the list before the document, a document type, an element left open behind one that is selected
    ∷ ("v\n" of "<g>" within 12 refused 2 at 1)
    ∷ ("" of "<!DOCTYPE g><g/>" within 12 refused 6 at 0)
    ∷ ("//v\n" of "<g><v/>" within 20 refused 7 at 7)
    ∷ []

abbrev answered : Row → Outcome
answered r =
    let a = answer_of r.list r.doc r.room in
    record { first = number_of a; second = second_of a; third = third_of a; buffer = bytes_after r.list r.doc (dots r.room) }

pub examples : map answered rows ≡ map (λ r. r.outcome) rows
unfolding rows answer_of bytes_after table_of header record_of field said_of lines lines_from line_by content judge_of other_encoding
    scanned scan_from start_of blank check_of space_end count_of verdicts verdict_of forest_of tokens_of tokens_from item_at kind_of
    declares ends_at tag_at end_tag_at tag_of end_tag_of piece_named before gather attribute_of small_tag text_of eq_of space_of skip
    value_of quoted_of many piece_of is_mark reference_of entity_ref_of char_ref_of is_char name_of expect seek starts run character guess
    number utf8 is_scalar is_space is_name is_name_start is_name_more list_paths list_answer judge list_lines sound_at within line_at steps
    read_all end_at mark_at attribute_at step_at test_at kind_at print_step print_line
examples = refl
