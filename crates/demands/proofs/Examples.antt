-- Document 01's examples a to l, one table under one statement: a list, a document and the room, and beside them the three numbers and what
-- is written, by document 01. antt computes the numbers, and the whole buffer after, from a buffer of dots. Then more of the same kind;
-- documents that name an encoding; lists with self and descendant-or-self steps; lists with tests of attributes.
use mathlib.Core.Path.{◌≡◌, refl}
use mathlib.Core.List.{List, [], ◌∷◌, ◌++◌, map}
use Prim.Native.Nat.{ℕ}
use Prim.Native.String.{String}
use lib.ListN.{length, drop, replicate}
use Rattle.xml.specs.Utf8.{utf8, is_scalar}
use Rattle.xml.specs.Notation.{bytes}
use Rattle.xml.specs.Productions.{is_char, except, is_space, is_name_start, is_name_more, is_name, digit_of}
use Rattle.xml.specs.Character.{value_of as number, guess, character, starts, run}
use Rattle.utf8.specs.Place.{ends_at}
use Rattle.chars.specs.Name.{name_of}
use Rattle.chars.specs.Space.{space_end}
use Rattle.chars.specs.Check.{check_of}
use Rattle.paths.specs.Path.{is_value, print_step, print_line}
use Rattle.paths.specs.Reader.{read_all, kind_at, test_at, step_at, steps, attribute_at, mark_at, end_at, line_at}
use Rattle.paths.specs.Judge.{within, sound_at, lines, judge, list_answer, list_paths}
use Rattle.matcher.specs.Says.{verdict_of}
use Rattle.readers.specs.Read.{expect, seek, skip, space_of, many}
use Rattle.readers.specs.Plain.{is_mark, text_of, comment_of}
use Rattle.readers.specs.Value.{is_decimal, ends_number, digits_of, char_ref_of, entity_ref_of, reference_of}
use Rattle.readers.specs.Value.{piece_of, quoted_of, value_of}
use Rattle.readers.specs.Named.{before, target_of, instruction_end, instruction_of, eq_of, piece_named, attribute_of, gather, tag_of}
use Rattle.readers.specs.Named.{end_tag_of, small_tag, version_of, is_letter, is_encoding, encoding_of, yes_or_no, declaration_of, other_of}
use Rattle.readers.specs.Named.{other_encoding}
use Rattle.readers.specs.Sign.{next_of, signs_in}
use Rattle.attributes.specs.Normal.{lines_from, lines as lines_of_value, char_of, encoded as encoded_signs, normal}
use Rattle.attributes.specs.Held.{normal_at, held_of, attributes_in, attributes_of, has_attribute}
use Rattle.tags.specs.Tag.{tag_at, end_tag_at}
use Rattle.items.specs.Item.{declares, kind_of, item_at}
use Rattle.document.specs.Place.{blank}
use Rattle.document.specs.Judge.{start_of, scan_from, scanned, judge_of}
use Rattle.trees.specs.Grown.{tokens_from, tokens_of, forest_of}
use Rattle.trees.specs.Written.{verdicts, cut_of, count_of}
use Rattle.cutter.specs.Answer.{answer_of, bytes_after, number_of, second_of, third_of}

-- what is handed back: three numbers, and the buffer after
pub record Outcome : Type 0 where
  pub first : ℕ
  pub second : ℕ
  pub third : ℕ
  pub buffer : List ℕ

pub record Row : Type 0 where
  pub list : List ℕ
  pub doc : List ℕ
  pub room : ℕ
  pub outcome : Outcome

-- a buffer of dots, and the same with a text at its front
abbrev dots : ℕ → List ℕ
dots n = replicate n 46

abbrev front : List ℕ → ℕ → List ℕ
front w room = w ++ drop (length w) (dots room)

infix 10 ◌of◌gives◌and◌
abbrev ◌of◌gives◌and◌ : String → String → String → ℕ → Row
l of d gives w and n =
    record {
      list = bytes l;
      doc = bytes d;
      room = 40;
      outcome = record { first = 0; second = length (bytes w); third = n; buffer = front (bytes w) 40 };
    }

infix 10 ◌of◌within◌refused◌at◌
abbrev ◌of◌within◌refused◌at◌ : String → String → ℕ → ℕ → ℕ → Row
l of d within room refused n at k =
    record {
      list = bytes l;
      doc = bytes d;
      room = room;
      outcome = record { first = n; second = k; third = 0; buffer = dots room };
    }

pub rows : List Row
rows =
    -- a: the root always stays
    ("" of "<g/>" gives "<g></g>" and 0)
    -- b: the chain
    ∷ ("//v\n" of "<g><p><v/></p></g>" gives "<g><p><v></v></p></g>" and 1)
    -- c: the first step /v is the root's
    ∷ ("/v\n" of "<g><p><v/></p></g>" gives "<g></g>" and 0)
    -- d: back to the parent's state
    ∷ ("//a/b\n" of "<a><c/><b/></a>" gives "<a><b></b></a>" and 1)
    -- e: the first step may take the second a
    ∷ ("//a/a/b\n" of "<a><a><a><b/></a></a></a>" gives "<a><a><a><b></b></a></a></a>" and 1)
    -- f: a chain element has no attributes
    ∷ ("//n #\n" of "<g><v k=\"1\"><n>Aar</n></v></g>" gives "<g><v><n>Aar</n></v></g>" and 1)
    -- g: a selected one has them
    ∷ ("//v\n" of "<g><v k=\"1\"><n>Aar</n></v></g>" gives "<g><v k=\"1\"></v></g>" and 1)
    -- h: selected inside a kept entry counts too
    ∷ ("//v #\n//n\n" of "<g><v><n/></v></g>" gives "<g><v><n/></v></g>" and 2)
    -- i: an end tag that does not match
    ∷ ("//v\n" of "<g><v></g>" within 40 refused 7 at 6)
    -- j: no root
    ∷ ("//v\n" of "" within 40 refused 7 at 0)
    -- k: a malformed line
    ∷ ("v\n" of "<g/>" within 40 refused 2 at 1)
    -- l: one byte too little
    ∷ ("//v\n" of "<g><p><v/></p></g>" within 20 refused 9 at 21)
    ∷ []

-- exactly enough room; no room; the list decides before the document; a document type; blanks of a selected tag stay, those of its end go
pub more : List Row
more =
    record {
      list = bytes "//v\n";
      doc = bytes "<g><p><v/></p></g>";
      room = 21;
      outcome = record { first = 0; second = 21; third = 1; buffer = bytes "<g><p><v></v></p></g>" };
    }
    ∷ ("" of "<g/>" within 0 refused 9 at 7)
    ∷ ("/v#\n" of "<g>" within 40 refused 2 at 1)
    ∷ ("//v\n" of "<!DOCTYPE g><g/>" within 40 refused 6 at 0)
    ∷ ("//v\n" of "<g> <v k='1' /> <!-- a --> </g>" gives "<g><v k='1' ></v></g>" and 1)
    ∷ ("//v #\n" of "<g>a<v >b<?p?></v >c</g >" gives "<g><v >b<?p?></v ></g>" and 1)
    ∷ []

-- a declaration that says UTF-8 is not in the cut; 10 stands behind the list's numbers, and before 5 to 9
pub encoded : List Row
encoded =
    ("//v\n" of "<?xml version='1.0' encoding='utf-8'?><g><v/></g>" gives "<g><v></v></g>" and 1)
    ∷ ("//v\n" of "<?xml version='1.0'?><g><v/></g>" gives "<g><v></v></g>" and 1)
    ∷ ("//v\n" of "<?xml version='1.0' encoding='ISO-8859-1'?><g><v/></g>" within 40 refused 10 at 0)
    ∷ ("//v\n" of "<?xml version=\"1.0\" encoding=\"UTF-16\"?><!DOCTYPE g><g>" within 0 refused 10 at 0)
    ∷ ("v\n" of "<?xml version='1.0' encoding='ISO-8859-1'?><g/>" within 40 refused 2 at 1)
    ∷ []

-- self takes the place of the step before, descendant-or-self that or any below; a first self step selects nothing; two colons are 2
pub staying : List Row
staying =
    ("/g/self::g/v\n" of "<g><v/></g>" gives "<g><v></v></g>" and 1)
    ∷ ("/g/self::h/v\n" of "<g><v/></g>" gives "<g></g>" and 0)
    ∷ ("/self::g\n" of "<g><g/></g>" gives "<g></g>" and 0)
    ∷ ("/descendant-or-self::v\n" of "<v><v/></v>" gives "<v><v></v></v>" and 2)
    ∷ ("//v/descendant-or-self::v #\n" of "<g>a<v><v/></v></g>" gives "<g><v><v/></v></g>" and 2)
    ∷ ("//self::g\n" of "<g/>" within 40 refused 2 at 1)
    ∷ []

-- a test looks at the element's own attributes, made normal; a chain element has none in the cut, and a plain one keeps its own
pub tested : List Row
tested =
    ("//v[@k=\"x\"]\n" of "<g><v k='x'/><v k='y'/><v/></g>" gives "<g><v k='x'></v></g>" and 1)
    ∷ ("//v[@k=\"\"]\n" of "<g><v/><v k=''/></g>" gives "<g><v k=''></v></g>" and 1)
    ∷ ("//v[@k=\"a b\"] #\n" of "<g><v k='a\tb'>t</v><v k='a&#9;b'/></g>" gives "<g><v k='a\tb'>t</v></g>" and 1)
    ∷ ("/g/*[@b=\"&\"]\n" of "<g><v/></g>" within 40 refused 2 at 1)
    ∷ ("/g[@k=\"x\"]/v\n" of "<g><v/></g>" within 40 refused 2 at 1)
    ∷ ("//v[@b=\"2\"]\n" of "<g><p b='2'><v a='1' b = \"&#50;\"/></p></g>" gives "<g><p><v a='1' b = \"&#50;\"></v></p></g>" and 1)
    ∷ []

abbrev answered : Row → Outcome
answered r =
    let a = answer_of r.list r.doc r.room in
    record { first = number_of a; second = second_of a; third = third_of a; buffer = bytes_after r.list r.doc (dots r.room) }

abbrev Holds : List Row → Type 0
Holds rs = map answered rs ≡ map (λ r. r.outcome) rs

pub examples : Holds rows
unfolding rows answer_of bytes_after judge_of other_encoding scanned scan_from start_of blank check_of space_end cut_of count_of verdicts
    verdict_of forest_of tokens_of tokens_from item_at kind_of declares ends_at tag_at end_tag_at tag_of end_tag_of piece_named before
    gather attribute_of small_tag text_of eq_of space_of skip value_of quoted_of many piece_of is_mark reference_of entity_ref_of
    char_ref_of is_char name_of expect seek starts run character guess number utf8 is_scalar is_space is_name is_name_start is_name_more
    list_paths list_answer judge lines sound_at within line_at steps read_all end_at mark_at attribute_at step_at test_at kind_at print_step
    print_line
examples = refl

pub others : Holds more
unfolding more answer_of bytes_after judge_of other_encoding scanned scan_from start_of blank check_of space_end cut_of count_of verdicts
    verdict_of forest_of tokens_of tokens_from item_at kind_of declares ends_at tag_at end_tag_at tag_of end_tag_of piece_named before
    gather attribute_of small_tag text_of comment_of target_of instruction_end instruction_of eq_of space_of skip value_of quoted_of many
    piece_of is_mark reference_of entity_ref_of char_ref_of is_char name_of expect seek starts run character guess number utf8 is_scalar
    is_space is_name is_name_start is_name_more list_paths list_answer judge lines sound_at within line_at steps read_all end_at mark_at
    attribute_at step_at test_at kind_at print_step print_line
others = refl

pub encodings : Holds encoded
unfolding encoded answer_of bytes_after judge_of other_encoding scanned scan_from start_of blank check_of space_end cut_of count_of verdicts
    verdict_of forest_of tokens_of tokens_from item_at kind_of declares ends_at tag_at end_tag_at tag_of end_tag_of piece_named before
    gather attribute_of small_tag text_of declaration_of version_of encoding_of other_of yes_or_no is_decimal is_letter is_encoding
    target_of instruction_end instruction_of eq_of space_of skip value_of quoted_of many piece_of is_mark reference_of entity_ref_of
    char_ref_of is_char name_of expect seek starts run character guess number utf8 is_scalar is_space is_name is_name_start is_name_more
    list_paths list_answer judge lines sound_at within line_at steps read_all end_at mark_at attribute_at step_at test_at kind_at print_step
    print_line
encodings = refl

pub steps_stay : Holds staying
unfolding staying answer_of bytes_after judge_of other_encoding scanned scan_from start_of blank check_of space_end cut_of count_of verdicts
    verdict_of forest_of tokens_of tokens_from item_at kind_of declares ends_at tag_at end_tag_at tag_of end_tag_of piece_named before
    gather attribute_of small_tag text_of eq_of space_of skip value_of quoted_of many piece_of is_mark reference_of entity_ref_of
    char_ref_of is_char name_of expect seek starts run character guess number utf8 is_scalar is_space is_name is_name_start is_name_more
    list_paths list_answer judge lines sound_at within line_at steps read_all end_at mark_at attribute_at step_at test_at kind_at print_step
    print_line
steps_stay = refl

pub attributes_tested : Holds tested
unfolding tested answer_of bytes_after judge_of other_encoding scanned scan_from start_of blank check_of space_end cut_of count_of verdicts
    verdict_of forest_of tokens_of tokens_from item_at kind_of declares ends_at tag_at end_tag_at tag_of end_tag_of piece_named before
    gather attribute_of small_tag text_of eq_of space_of skip value_of quoted_of many piece_of is_mark reference_of entity_ref_of
    char_ref_of digits_of ends_number digit_of is_decimal is_char except name_of expect seek starts run character guess number utf8
    is_scalar is_space is_name is_name_start is_name_more list_paths list_answer judge lines sound_at within line_at steps read_all end_at
    mark_at attribute_at step_at test_at kind_at print_step print_line is_value attributes_of attributes_in held_of normal_at signs_in
    next_of has_attribute normal lines_of_value lines_from char_of encoded_signs
attributes_tested = refl
