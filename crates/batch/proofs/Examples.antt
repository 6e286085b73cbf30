-- Batches worked out by document 02's words, one table under one statement: a list, the bytes of a batch and the room, and beside them the
-- three numbers and the front of the buffer. antt computes the numbers, and the whole buffer after, from a buffer of dots.
use mathlib.Core.Path.{◌≡◌, refl}
use mathlib.Core.List.{List, [], ◌∷◌, ◌++◌, map}
use Prim.Native.Nat.{ℕ}
use Prim.Native.String.{String}
use lib.ListN.{length, drop, replicate}
use Rattle.xml.specs.Utf8.{utf8, is_scalar}
use Rattle.xml.specs.Notation.{bytes}
use Rattle.xml.specs.Productions.{is_char, is_space, is_name_start, is_name_more, is_name}
use Rattle.xml.specs.Character.{value_of as number, guess, character, starts, run}
use Rattle.utf8.specs.Place.{ends_at}
use Rattle.chars.specs.Name.{name_of}
use Rattle.chars.specs.Space.{space_end}
use Rattle.chars.specs.Check.{check_of}
use Rattle.paths.specs.Path.{print_step, print_line}
use Rattle.paths.specs.Reader.{read_all, kind_at, test_at, step_at, steps, attribute_at, mark_at, end_at, line_at}
use Rattle.paths.specs.Judge.{within, sound_at, lines, judge, list_answer, list_paths}
use Rattle.matcher.specs.Says.{verdict_of}
use Rattle.readers.specs.Read.{expect, seek, skip, space_of, many}
use Rattle.readers.specs.Plain.{is_mark, text_of}
use Rattle.readers.specs.Value.{char_ref_of, entity_ref_of, reference_of, piece_of, quoted_of, value_of}
use Rattle.readers.specs.Named.{before, eq_of, piece_named, attribute_of, gather, tag_of, end_tag_of, small_tag, other_encoding}
use Rattle.tags.specs.Tag.{tag_at, end_tag_at}
use Rattle.items.specs.Item.{declares, kind_of, item_at}
use Rattle.document.specs.Place.{blank}
use Rattle.document.specs.Judge.{start_of, scan_from, scanned, judge_of}
use Rattle.trees.specs.Grown.{tokens_from, tokens_of, forest_of}
use Rattle.trees.specs.Written.{verdicts, cut_of, count_of}
use Rattle.bundle.specs.Batch.{entries_of, reach_of, layout_of}
use Rattle.batch.specs.Answer.{entry_of, selected_of, result_of, selected_in, batch_of, batch_bytes, number_of, second_of, third_of}

-- what is handed back: three numbers, and the buffer after
pub record Outcome : Type 0 where
  pub first : ℕ
  pub second : ℕ
  pub third : ℕ
  pub buffer : List ℕ

pub record Row : Type 0 where
  pub list : List ℕ
  pub batch : List ℕ
  pub room : ℕ
  pub outcome : Outcome

abbrev dots : ℕ → List ℕ
dots n = replicate n 46

-- written into a buffer of 40 bytes, with so many elements selected
infix 10 ◌of◌gives◌and◌
abbrev ◌of◌gives◌and◌ : String → List ℕ → List ℕ → ℕ → Row
l of b gives w and n =
    record {
      list = bytes l;
      batch = b;
      room = 40;
      outcome = record { first = 0; second = length w; third = n; buffer = w ++ drop (length w) (dots 40) };
    }

infix 10 ◌of◌within◌refused◌at◌
abbrev ◌of◌within◌refused◌at◌ : String → List ℕ → ℕ → ℕ → ℕ → Row
l of b within room refused n at k =
    record { list = bytes l; batch = b; room = room; outcome = record { first = n; second = k; third = 0; buffer = dots room } }

pub rows : List Row
rows =
    -- no documents
    ("//v\n" of 1 ∷ [] gives 1 ∷ [] and 0)
    -- "the third number is the sum over the entries", and not that of the last
    ∷ ("//v\n" of 1 ∷ 0 ∷ 0 ∷ 0 ∷ 11 ∷ bytes "<v><v/></v>" ++ 0 ∷ 0 ∷ 0 ∷ 4 ∷ bytes "<v/>"
    gives 1 ∷ 0 ∷ 0 ∷ 0 ∷ 14 ∷ bytes "<v><v></v></v>" ++ 0 ∷ 0 ∷ 0 ∷ 7 ∷ bytes "<v></v>" and 3)
    -- "or length 0 where that document is refused": an open element, no bytes, a document type; those behind are cut
    ∷ ("//v\n" of 1 ∷ 0 ∷ 0 ∷ 0 ∷ 3 ∷ bytes "<g>" ++ 0 ∷ 0 ∷ 0 ∷ 0 ∷ 0 ∷ 0 ∷ 0 ∷ 4 ∷ bytes "<v/>"
    gives 1 ∷ 0 ∷ 0 ∷ 0 ∷ 0 ∷ 0 ∷ 0 ∷ 0 ∷ 0 ∷ 0 ∷ 0 ∷ 0 ∷ 7 ∷ bytes "<v></v>" and 1)
    ∷ ("" of 1 ∷ 0 ∷ 0 ∷ 0 ∷ 16 ∷ bytes "<!DOCTYPE g><g/>" gives 1 ∷ 0 ∷ 0 ∷ 0 ∷ 0 ∷ [] and 0)
    -- "after 1 to 3 comes 11": a list at fault before an empty batch
    ∷ ("v\n" of [] within 4 refused 2 at 1)
    -- 11: "an empty batch", "another version", a length "cut short", one that "runs past the end"; before 9, and whatever the documents are
    ∷ ("" of [] within 4 refused 11 at 0)
    ∷ ("" of 2 ∷ [] within 0 refused 11 at 0)
    ∷ ("" of 1 ∷ 0 ∷ 0 ∷ 0 ∷ 1 ∷ 60 ∷ 0 ∷ 0 ∷ 0 ∷ [] within 0 refused 11 at 6)
    ∷ ("" of 1 ∷ 0 ∷ 0 ∷ 0 ∷ 5 ∷ bytes "<g/>" within 40 refused 11 at 1)
    -- "then 9 with the length of the whole result": one byte too little, and none
    ∷ ("" of 1 ∷ 0 ∷ 0 ∷ 0 ∷ 4 ∷ bytes "<g/>" within 11 refused 9 at 12)
    ∷ ("" of 1 ∷ [] within 0 refused 9 at 1)
    ∷ []

abbrev answered : Row → Outcome
answered r =
    let a = batch_of r.list r.batch r.room in
    record { first = number_of a; second = second_of a; third = third_of a; buffer = batch_bytes r.list r.batch (dots r.room) }

pub examples : map answered rows ≡ map (λ r. r.outcome) rows
unfolding rows batch_of batch_bytes result_of selected_in entry_of selected_of layout_of reach_of entries_of judge_of other_encoding scanned
    scan_from start_of blank check_of space_end cut_of count_of verdicts verdict_of forest_of tokens_of tokens_from item_at kind_of declares
    ends_at tag_at end_tag_at tag_of end_tag_of piece_named before gather attribute_of small_tag text_of eq_of space_of skip value_of
    quoted_of many piece_of is_mark reference_of entity_ref_of char_ref_of is_char name_of expect seek starts run character guess number
    utf8 is_scalar is_space is_name is_name_start is_name_more list_paths list_answer judge lines sound_at within line_at steps read_all
    end_at mark_at attribute_at step_at test_at kind_at print_step print_line
examples = refl
