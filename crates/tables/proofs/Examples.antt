-- Tables of whole documents by lists, worked by computing: a list and a document, and beside them the table and the number of elements
-- selected, by document 02 and RFC 4180. The length of a table is what 9 hands back.
use mathlib.Core.Path.{◌≡◌, refl}
use mathlib.Core.List.{List, [], ◌∷◌, map}
use Prim.Native.Nat.{ℕ}
use Prim.Native.String.{String}
use lib.ListN.{length}
use Rattle.xml.specs.Utf8.{utf8, is_scalar}
use Rattle.xml.specs.Notation.{bytes}
use Rattle.xml.specs.Productions.{is_char, is_space, is_name_start, is_name_more, is_name, digit_of}
use Rattle.xml.specs.Character.{value_of as number, guess, character, starts, run}
use Rattle.utf8.specs.Place.{ends_at}
use Rattle.chars.specs.Name.{name_of}
use Rattle.paths.specs.Path.{print_step, print_line}
use Rattle.paths.specs.Reader.{read_all, kind_at, test_at, step_at, steps, attribute_at, mark_at, end_at, line_at}
use Rattle.paths.specs.Judge.{within, sound_at, lines as list_lines, judge, list_answer, list_paths}
use Rattle.matcher.specs.Says.{verdict_of}
use Rattle.readers.specs.Read.{expect, seek, skip, space_of, many}
use Rattle.readers.specs.Plain.{is_mark, text_of, comment_of, section_of}
use Rattle.readers.specs.Value.{is_decimal, is_hexadecimal, ends_number, digits_of, char_ref_of, entity_ref_of, reference_of}
use Rattle.readers.specs.Value.{piece_of, quoted_of, value_of}
use Rattle.readers.specs.Named.{before, eq_of, piece_named, attribute_of, gather, tag_of, end_tag_of, small_tag}
use Rattle.tags.specs.Tag.{tag_at, end_tag_at}
use Rattle.items.specs.Item.{declares, kind_of, item_at}
use Rattle.document.specs.Judge.{start_of}
use Rattle.trees.specs.Grown.{tokens_from, tokens_of, forest_of}
use Rattle.trees.specs.Written.{verdicts, count_of}
use Rattle.rows.specs.Field.{field, record_of, header}
use Rattle.rows.specs.Text.{line_by, lines_from, lines, content, said_of}
use Rattle.rows.specs.Table.{table_of}

pub record Told : Type 0 where
  pub table : List ℕ
  pub selected : ℕ
  pub needed : ℕ

pub record Row : Type 0 where
  pub list : List ℕ
  pub doc : List ℕ
  pub told : Told

infix 10 ◌of◌gives◌and◌needs◌
abbrev ◌of◌gives◌and◌needs◌ : String → String → String → ℕ → ℕ → Row
l of d gives w and n needs k = record { list = bytes l; doc = bytes d; told = record { table = bytes w; selected = n; needed = k } }

pub rows : List Row
rows =
    -- none is selected: the header alone
    ("//x\n" of "<g/>" gives "path,text\r\n" and 0 needs 11)
    -- an empty tag has no text; the mark changes nothing; an element that two paths select has one record
    ∷ ("//v\n" of "<g>a<v/></g>" gives "path,text\r\ng/v,\r\n" and 1 needs 17)
    ∷ ("//v #\n/g/v\n" of "<g>a<v/></g>" gives "path,text\r\ng/v,\r\n" and 1 needs 17)
    -- text goes on behind a child, whose own is not in it; a quote is doubled; the order is that of start tags
    ∷ ("//*\n" of "<g>a<v>b \"c\"</v>, d</g>" gives "path,text\r\ng,\"a, d\"\r\ng/v,\"b \"\"c\"\"\"\r\n" and 2 needs 36)
    -- CR LF and CR are made LF, in a section too; `&#13;` stays CR; in a section `&` stands for itself; a comment says nothing
    ∷ ("/g\n" of "<g>a\r\nb\r<!--c--><![CDATA[<&lt;\r]]>&lt;&#13;</g>" gives "path,text\r\ng,\"a\nb\n<&lt;\n<\r\"\r\n" and 1 needs 29)
    ∷ []

abbrev worked : Row → Told
worked r =
    let w = table_of r.list r.doc in
    record { table = w; selected = count_of r.list r.doc; needed = length w }

pub examples : map worked rows ≡ map (λ r. r.told) rows
unfolding rows table_of header record_of field said_of lines lines_from line_by content count_of verdicts verdict_of forest_of tokens_of
    tokens_from start_of item_at kind_of declares ends_at tag_at end_tag_at tag_of end_tag_of piece_named before gather attribute_of
    small_tag text_of comment_of section_of eq_of space_of skip value_of quoted_of many piece_of is_mark reference_of entity_ref_of
    char_ref_of digits_of ends_number digit_of is_decimal is_hexadecimal is_char name_of expect seek starts run character guess number utf8
    is_scalar is_space is_name is_name_start is_name_more list_paths list_answer judge list_lines sound_at within line_at steps read_all
    end_at mark_at attribute_at step_at test_at kind_at print_step print_line
examples = refl
