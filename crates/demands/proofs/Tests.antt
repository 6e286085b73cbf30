-- Worked examples of lines with a test, a table under one statement: the lines as data, a document, what is cut of it, and how many
-- elements are selected. antt computes them. Each cut is cut again by the same lines, too: it stays, with as many.
use mathlib.Core.Path.{◌≡◌, refl}
use mathlib.Core.Bool.{Bool, true, false, ◌&&◌}
use mathlib.Core.List.{List, [], ◌∷◌}
use mathlib.Core.Option.{none, some}
use Prim.Native.Nat.{ℕ}
use Prim.Native.String.{String}
use lib.Dec.{eqb}
use Rattle.xml.specs.Utf8.{utf8, is_scalar}
use Rattle.xml.specs.Notation.{bytes}
use Rattle.xml.specs.Productions.{same, except, is_char, is_space, is_name_start, is_name_more, is_name, digit_of}
use Rattle.xml.specs.Character.{value_of as number, guess, character, starts, run}
use Rattle.xml.specs.Forest.{render}
use Rattle.utf8.specs.Place.{ends_at}
use Rattle.chars.specs.Name.{name_of}
use Rattle.paths.specs.Path.{any, named, Step, Path}
use Rattle.paths.specs.declared.Kind.TheVariants.{Child, Descendant, SelfStep}
use Rattle.matcher.specs.Says.{verdict_of}
use Rattle.readers.specs.Read.{expect, seek, skip, space_of, many}
use Rattle.readers.specs.Plain.{is_mark, text_of}
use Rattle.readers.specs.Value.{is_decimal, is_hexadecimal, ends_number, digits_of, char_ref_of, entity_ref_of, reference_of}
use Rattle.readers.specs.Value.{piece_of, quoted_of, value_of}
use Rattle.readers.specs.Named.{before, eq_of, piece_named, attribute_of, gather, tag_of, end_tag_of, small_tag}
use Rattle.readers.specs.Sign.{next_of, signs_in}
use Rattle.attributes.specs.Normal.{lines_from, lines, char_of, encoded, normal}
use Rattle.attributes.specs.Held.{normal_at, held_of, attributes_in, attributes_of, has_attribute}
use Rattle.tags.specs.Tag.{tag_at, end_tag_at}
use Rattle.items.specs.Item.{declares, kind_of, item_at}
use Rattle.document.specs.Judge.{start_of}
use Rattle.trees.specs.Cut.{cut, count}
use Rattle.trees.specs.Grown.{tokens_from, tokens_of, forest_of}
use Rattle.trees.specs.Written.{verdicts}

-- ---- lines

abbrev below : String → Step
below n = record { kind = Descendant; test = named (bytes n) }

abbrev child : String → Step
child n = record { kind = Child; test = named (bytes n) }

abbrev same_place : Step
same_place = record { kind = SelfStep; test = any }

abbrev every : Step
every = record { kind = Descendant; test = any }

-- steps with [@k="w"], and the same with ` #`; steps alone
abbrev line : List Step → String → String → Path
line ss k w = record { steps = ss; test = some (record { name = bytes k; value = bytes w }); marked = false }

abbrev kept : List Step → String → String → Path
kept ss k w = record { steps = ss; test = some (record { name = bytes k; value = bytes w }); marked = true }

abbrev alone : List Step → Path
alone ss = record { steps = ss; test = none; marked = false }

-- ---- the table

pub record Row : Type 0 where
  pub list : List Path
  pub doc : String
  pub result : String
  pub number : ℕ

infix 10 ◌of◌gives◌and◌
abbrev ◌of◌gives◌and◌ : List Path → String → String → ℕ → Row
l of d gives w and n = record { list = l; doc = d; result = w; number = n }

unfoldable pub table : List Row
table =
    -- `//place[@type="village"]`: the value is told by its characters, and the tag is written as it came
    (line (below "place" ∷ []) "type" "village" ∷ []
    of "<g><place type=\"village\"/><place type=\"town\"/><place/></g>" gives "<g><place type=\"village\"></place></g>" and 1)
    ∷ (line (below "place" ∷ []) "type" "village" ∷ []
    of "<g><place a='1' type = 'vill&#97;ge'/></g>" gives "<g><place a='1' type = 'vill&#97;ge'></place></g>" and 1)
    -- another name, another value
    ∷ (line (below "v" ∷ []) "k" "1" ∷ [] of "<g><v K='1'/><v k='1 '/><v k=' 1'/><v k='01'/></g>" gives "<g></g>" and 0)
    -- an element on the way loses its attributes, and passes none by them
    ∷ (line (below "v" ∷ []) "k" "1" ∷ [] of "<g k='1'><p k='1'><v k='1'/></p></g>" gives "<g><p><v k='1'></v></p></g>" and 1)
    ∷ (line (every ∷ []) "k" "1" ∷ [] of "<g k='1'><p><v k='1'/></p></g>" gives "<g k='1'><p><v k='1'></v></p></g>" and 2)
    ∷ (line (child "g" ∷ child "p" ∷ []) "k" "1" ∷ alone (below "v" ∷ []) ∷ []
    of "<g><p k='2'><v/></p><p k='1'/></g>" gives "<g><p><v></v></p><p k='1'></p></g>" and 2)
    -- an attribute that is not there is not empty
    ∷ (line (every ∷ []) "k" "" ∷ [] of "<g><v/><v k=''/></g>" gives "<g><v k=''></v></g>" and 1)
    -- a literal LF is a space, and `&#10;` is not
    ∷ (line (below "v" ∷ []) "k" "a b" ∷ [] of "<g><v k='a\nb'/><v k='a&#10;b'/><v k='a&#32;b'/></g>"
    gives "<g><v k='a\nb'></v><v k='a&#32;b'></v></g>" and 2)
    -- a self step may carry it
    ∷ (line (below "v" ∷ same_place ∷ []) "k" "1" ∷ [] of "<g><v k='1'/><v/></g>" gives "<g><v k='1'></v></g>" and 1)
    -- the same path with two tests, and without one
    ∷ (line (below "v" ∷ []) "k" "1" ∷ line (below "v" ∷ []) "k" "2" ∷ [] of "<g><v k='1'/><v k='2'/><v k='3'/></g>"
    gives "<g><v k='1'></v><v k='2'></v></g>" and 2)
    ∷ (kept (below "v" ∷ []) "k" "1" ∷ alone (below "v" ∷ []) ∷ [] of "<g><v k='1'>x</v><v k='2'>y</v></g>"
    gives "<g><v k='1'>x</v><v k='2'></v></g>" and 2)
    -- a marked line
    ∷ (kept (below "v" ∷ []) "k" "1" ∷ [] of "<g><v k='1'>x<n k='1'/></v><v>y</v></g>" gives "<g><v k='1'>x<n k='1'/></v></g>" and 1)
    ∷ []

-- the cut is as said, with as many selected, and so is the cut of the cut
unfoldable pub holds : List Row → Bool
unfolding verdicts verdict_of forest_of tokens_of tokens_from start_of item_at kind_of declares ends_at tag_at end_tag_at tag_of end_tag_of
    piece_named before gather attribute_of small_tag text_of eq_of space_of skip value_of quoted_of many piece_of is_mark reference_of
    entity_ref_of char_ref_of digits_of is_char name_of expect seek starts run character guess number utf8 is_scalar is_space is_name
    is_name_start is_name_more attributes_of attributes_in held_of has_attribute normal_at signs_in next_of except is_decimal is_hexadecimal
    ends_number digit_of normal lines lines_from char_of encoded
holds [] = true
holds (r ∷ rs) =
    let v = verdicts r.list in
    let f = forest_of (bytes r.doc) in
    let g = forest_of (bytes r.result) in
    ((same (render (cut v [] f)) (bytes r.result) && eqb (count v [] f) r.number)
    && (same (render (cut v [] g)) (bytes r.result) && eqb (count v [] g) r.number))
    && holds rs

pub tests : holds table ≡ true
unfolding holds table
tests = refl
