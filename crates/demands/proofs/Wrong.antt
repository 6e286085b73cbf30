-- Wrong filters that document 01 names, under "How much a contract says": a filter that meets the contract of `cut` is none of them, since
-- at a list and a document of its examples the contract says otherwise. In order: what a filter is; three rows, computed; the filters.
use mathlib.Core.Path.{◌≡◌, refl, sym, ap, ◌∙◌}
use mathlib.Core.List.{List, [], ◌++◌}
use Prim.Native.Nat.{ℕ}
use native.Mathlib.Omega.{arith}
use lib.ListN.{length, get_or, take, replicate}
use Rattle.std.specs.Prelude.{Result, Ok}
use Rattle.xml.specs.Utf8.{utf8, is_scalar}
use Rattle.xml.specs.Notation.{bytes}
use Rattle.xml.specs.Productions.{is_char, is_space, is_name_start, is_name_more, is_name}
use Rattle.xml.specs.Character.{value_of as number, guess, character, starts, run}
use Rattle.utf8.specs.Place.{ends_at}
use Rattle.chars.specs.Name.{name_of}
use Rattle.chars.specs.Space.{space_end}
use Rattle.chars.specs.Check.{check_of}
use Rattle.paths.specs.Path.{print_step, print_line}
use Rattle.paths.specs.Reader.{read_all, kind_at, test_at, step_at, steps, attribute_at, mark_at, end_at, line_at}
use Rattle.paths.specs.Judge.{within, sound_at, lines, judge, list_answer, list_paths}
use Rattle.matcher.specs.Says.{verdict_of}
use Rattle.readers.specs.Read.{expect, seek, skip, space_of, many}
use Rattle.readers.specs.Plain.{is_mark, text_of}
use Rattle.readers.specs.Value.{char_ref_of, entity_ref_of, reference_of}
use Rattle.readers.specs.Value.{piece_of, quoted_of, value_of}
use Rattle.readers.specs.Named.{before, eq_of, piece_named, attribute_of, gather, tag_of}
use Rattle.readers.specs.Named.{end_tag_of, small_tag, other_encoding}
use Rattle.tags.specs.Tag.{tag_at, end_tag_at}
use Rattle.items.specs.Item.{declares, kind_of, item_at}
use Rattle.document.specs.Place.{blank}
use Rattle.document.specs.Judge.{start_of, scan_from, scanned, judge_of}
use Rattle.trees.specs.Grown.{tokens_from, tokens_of, forest_of}
use Rattle.trees.specs.Written.{verdicts, cut_of, count_of, tests_of}
use Rattle.cutter.specs.Answer.{answer_of, bytes_after, number_of, second_of, third_of}
use Rattle.cutter.specs.declared.answer.Cut.{Cut}
use Rattle.refusals.specs.declared.CutError.{CutError}

-- what a filter hands back: an answer, and the buffer after
abbrev pub Filter : Type 0
Filter = List ℕ → List ℕ → List ℕ → Result Cut CutError × List ℕ

-- the contract of `cut`
abbrev pub Meets : Filter → Type 0
Meets f = (list d o : List ℕ) → ((f list d o).0 ≡ answer_of list d (length o)) × ((f list d o).1 ≡ bytes_after list d o)

-- ---- rows a, b and c, in a buffer of 21 dots

abbrev dots : List ℕ
dots = replicate 21 46

abbrev none : List ℕ
none = []

abbrev list_b : List ℕ
list_b = bytes "//v\n"

abbrev doc_a : List ℕ
doc_a = bytes "<g/>"

abbrev doc_b : List ℕ
doc_b = bytes "<g><p><v/></p></g>"

row_a : answer_of none doc_a 21 ≡ Ok (record { length = 7; selected = 0; tests = tests_of none doc_a })
unfolding answer_of bytes_after judge_of other_encoding scanned scan_from start_of blank check_of space_end cut_of count_of verdicts
    verdict_of forest_of tokens_of tokens_from item_at kind_of declares ends_at tag_at end_tag_at tag_of end_tag_of piece_named before
    gather attribute_of small_tag text_of eq_of space_of skip value_of quoted_of many piece_of is_mark reference_of entity_ref_of
    char_ref_of is_char name_of expect seek starts run character guess number utf8 is_scalar is_space is_name is_name_start is_name_more
    list_paths list_answer judge lines sound_at within line_at steps read_all end_at mark_at attribute_at step_at test_at kind_at print_step
    print_line
row_a = refl

row_b : answer_of list_b doc_b 21 ≡ Ok (record { length = 21; selected = 1; tests = tests_of list_b doc_b })
unfolding answer_of bytes_after judge_of other_encoding scanned scan_from start_of blank check_of space_end cut_of count_of verdicts
    verdict_of forest_of tokens_of tokens_from item_at kind_of declares ends_at tag_at end_tag_at tag_of end_tag_of piece_named before
    gather attribute_of small_tag text_of eq_of space_of skip value_of quoted_of many piece_of is_mark reference_of entity_ref_of
    char_ref_of is_char name_of expect seek starts run character guess number utf8 is_scalar is_space is_name is_name_start is_name_more
    list_paths list_answer judge lines sound_at within line_at steps read_all end_at mark_at attribute_at step_at test_at kind_at print_step
    print_line
row_b = refl

bytes_a : bytes_after none doc_a dots ≡ bytes "<g></g>" ++ replicate 14 46
unfolding answer_of bytes_after judge_of other_encoding scanned scan_from start_of blank check_of space_end cut_of count_of verdicts
    verdict_of forest_of tokens_of tokens_from item_at kind_of declares ends_at tag_at end_tag_at tag_of end_tag_of piece_named before
    gather attribute_of small_tag text_of eq_of space_of skip value_of quoted_of many piece_of is_mark reference_of entity_ref_of
    char_ref_of is_char name_of expect seek starts run character guess number utf8 is_scalar is_space is_name is_name_start is_name_more
    list_paths list_answer judge lines sound_at within line_at steps read_all end_at mark_at attribute_at step_at test_at kind_at print_step
    print_line
bytes_a = refl

bytes_b : bytes_after list_b doc_b dots ≡ bytes "<g><p><v></v></p></g>"
unfolding answer_of bytes_after judge_of other_encoding scanned scan_from start_of blank check_of space_end cut_of count_of verdicts
    verdict_of forest_of tokens_of tokens_from item_at kind_of declares ends_at tag_at end_tag_at tag_of end_tag_of piece_named before
    gather attribute_of small_tag text_of eq_of space_of skip value_of quoted_of many piece_of is_mark reference_of entity_ref_of
    char_ref_of is_char name_of expect seek starts run character guess number utf8 is_scalar is_space is_name is_name_start is_name_more
    list_paths list_answer judge lines sound_at within line_at steps read_all end_at mark_at attribute_at step_at test_at kind_at print_step
    print_line
bytes_b = refl

-- ---- the filters

module _ (f : Filter) (meets : Meets f) where
  answer_a : (f none doc_a dots).0 ≡ Ok (record { length = 7; selected = 0; tests = tests_of none doc_a })
  answer_a = (meets none doc_a dots).0 ∙ row_a

  answer_b : (f list_b doc_b dots).0 ≡ Ok (record { length = 21; selected = 1; tests = tests_of list_b doc_b })
  answer_b = (meets list_b doc_b dots).0 ∙ row_b

  buffer_a : (f none doc_a dots).1 ≡ bytes "<g></g>" ++ replicate 14 46
  buffer_a = (meets none doc_a dots).1 ∙ bytes_a

  buffer_b : (f list_b doc_b dots).1 ≡ bytes "<g><p><v></v></p></g>"
  buffer_b = (meets list_b doc_b dots).1 ∙ bytes_b

  -- "A filter that refuses everything"
  pub refuses_everything : ((list d o : List ℕ) → number_of (f list d o).0 ≡ 0 → ⊥) → ⊥
  refuses_everything h = h none doc_a dots (ap number_of answer_a)

  -- "or always gives one cut"
  pub gives_one_cut : (w : List ℕ)
      → ((list d o : List ℕ) → number_of (f list d o).0 ≡ 0 → take (second_of (f list d o).0) (f list d o).1 ≡ w) → ⊥
  gives_one_cut w h =
      let a : bytes "<g></g>" ≡ w = rw (answer_a, buffer_a) at (h none doc_a dots (ap number_of answer_a)) in
      let b : bytes "<g><p><v></v></p></g>" ≡ w = rw (answer_b, buffer_b) at (h list_b doc_b dots (ap number_of answer_b)) in
      differ (ap length (a ∙ sym b))
    where
      differ : ◌≡◌ {A = ℕ} 7 21 → ⊥
      differ e = omega arith

  -- "One that writes nothing"
  pub writes_nothing : ((list d o : List ℕ) → (f list d o).1 ≡ o) → ⊥
  writes_nothing h = differ (ap (λ (s : List ℕ). get_or s 0 0) (sym buffer_a ∙ h none doc_a dots))
    where
      differ : ◌≡◌ {A = ℕ} 60 46 → ⊥
      differ e = omega arith

  -- "or copies its input"
  pub copies_input : ((list d o : List ℕ) → number_of (f list d o).0 ≡ 0 → second_of (f list d o).0 ≡ length d) → ⊥
  copies_input h = differ (ap second_of (sym answer_a) ∙ h none doc_a dots (ap number_of answer_a))
    where
      differ : ◌≡◌ {A = ℕ} 7 4 → ⊥
      differ e = omega arith

  -- "One that invents the number selected": whatever it says of every call alike
  pub invents_number : (n : ℕ) → ((list d o : List ℕ) → number_of (f list d o).0 ≡ 0 → third_of (f list d o).0 ≡ n) → ⊥
  invents_number n h =
      let a : 0 ≡ n = ap third_of (sym answer_a) ∙ h none doc_a dots (ap number_of answer_a) in
      let b : 1 ≡ n = ap third_of (sym answer_b) ∙ h list_b doc_b dots (ap number_of answer_b) in
      absurd (omega arith)
