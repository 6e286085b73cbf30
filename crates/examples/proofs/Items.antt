-- Worked examples of `item_at`, each table under one statement that antt computes: texts, and beside them the item at their front by
-- document 01 and XML 1.0. In order: how the tables are written; first items; kinds, told by their first bytes; instructions and document
-- types; comments, sections and text; references; tags; sizes, and which fault decides; the places of one document.
use mathlib.Core.Path.{◌≡◌, refl}
use mathlib.Core.Bool.{true, false}
use mathlib.Core.List.{List, [], ◌∷◌, ◌++◌}
use Prim.Native.Nat.{ℕ, zero, suc}
use Prim.Native.String.{String}
use Rattle.xml.specs.Utf8.{utf8, is_scalar}
use Rattle.xml.specs.Notation.{bytes}
use Rattle.xml.specs.Productions.{is_char, is_space, is_name_start, is_name_more, is_name, digit_of}
use Rattle.xml.specs.Character.{value_of as number, guess, character, starts, run}
use Rattle.utf8.specs.Place.{ends_at}
use Rattle.utf8.proofs.Examples.{Row, ◌at◌gives◌, answers, expected}
use Rattle.chars.specs.Name.{name_of}
use Rattle.readers.specs.Read.{expect, seek, skip, space_of, many}
use Rattle.readers.specs.Plain.{is_mark, text_of, comment_of, section_of}
use Rattle.readers.specs.Value.{is_decimal, is_hexadecimal, ends_number, digits_of, char_ref_of, entity_ref_of, reference_of}
use Rattle.readers.specs.Value.{piece_of, quoted_of, value_of}
use Rattle.readers.specs.Named.{before, target_of, instruction_end, instruction_of, eq_of, version_of, is_letter, is_encoding, encoding_of}
use Rattle.readers.specs.Named.{yes_or_no, declaration_of, piece_named, attribute_of, gather, tag_of, end_tag_of, small_tag}
use Rattle.tags.specs.Tag.{tag_at, end_tag_at}
use Rattle.tags.specs.declared.Item.{Item}
use Rattle.tags.specs.declared.Item.TheVariants.{Declaration, Instruction, Comment, Section, Reference, Text, Start, Finish}
use Rattle.tags.specs.declared.Item.TheVariants.{Doctype, Malformed, TooLarge, Nothing}
use Rattle.items.specs.Item.{declares, kind_of, item_at}

-- ---- how the tables are written

-- at the front of s stands this item; or a broken one
infix 10 ◌gives◌
abbrev ◌gives◌ : List ℕ → Item → Row Item
s gives i = s at 0 gives i

infix 10 ◌is◌
abbrev ◌is◌ : String → Item → Row Item
s is i = bytes s gives i

abbrev broken : List String → List (Row Item)
broken [] = []
broken (s ∷ ss) = (s is Malformed) ∷ broken ss

-- a start tag and an empty tag without repeated attributes: the name's length, the places of the tag's final `>` or `/>` and of its end
abbrev start : ℕ → ℕ → ℕ → Item
start n h e = Start n h e false false

abbrev alone : ℕ → ℕ → ℕ → Item
alone n h e = Start n h e true false

-- n times w; a name of n letters
abbrev times : ℕ → List ℕ → List ℕ
times zero w = []
times (suc n) w = w ++ times n w

abbrev letters : ℕ → List ℕ
letters n = times n (bytes "a")

-- é in one code point, and in two
abbrev composed : List ℕ
composed = 0xC3 ∷ 0xA9 ∷ []

abbrev decomposed : List ℕ
decomposed = 0x65 ∷ 0xCC ∷ 0x81 ∷ []

-- an attribute with this name; one for each letter, five bytes long
abbrev attribute : List ℕ → List ℕ
attribute n = bytes " " ++ n ++ bytes "=''"

abbrev attributes : List ℕ → List ℕ
attributes [] = []
attributes (c ∷ cs) = attribute (c ∷ []) ++ attributes cs

-- ---- first items

pub firsts : List (Row Item)
firsts =
    ("<?xml version=\"1.0\"?>" is Declaration 21)
    ∷ ("<?xml version='1.0' encoding='UTF-8' standalone='no' ?><a/>" is Declaration 55)
    ∷ ("<?xml\tversion='1.0'?>" is Declaration 21)
    ∷ (0xEF ∷ 0xBB ∷ 0xBF ∷ bytes "<?xml version='1.0'?>" at 3 gives Declaration 24)
    ∷ ("<?xml-s?>" is Instruction 9)
    ∷ (" <?xml version='1.0'?>" is Text 1)
    ∷ ("<!DOCTYPE a>" is Doctype)
    ∷ ("<a/>" is alone 1 2 4)
    ∷ ("" is Nothing)
    ∷ broken
    ("<?xml?>" ∷ "<?xml ?>" ∷ "<?xml " ∷ "<?xml" ∷ "<?XML version='1.0'?>" ∷ "<?xml version='2.0'?>"
    ∷ "<?xml version='1.0' encoding='8'?>" ∷ [])

pub firsts_computed : answers (item_at true) firsts ≡ expected firsts
unfolding firsts item_at kind_of declares ends_at tag_at tag_of piece_named before gather attribute_of small_tag instruction_of
    instruction_end target_of declaration_of version_of encoding_of yes_or_no eq_of space_of skip text_of name_of expect seek starts run
    character guess number utf8 is_scalar is_space is_name is_name_start is_name_more is_decimal is_letter is_encoding
firsts_computed = refl

-- ---- kinds, told by their first bytes

pub kinds : List (Row Item)
kinds =
    ("<?a?>" is Instruction 5)
    ∷ ("<!-- a -->" is Comment 10)
    ∷ ("<![CDATA[a]]>" is Section 13)
    ∷ ("<!DOCTYPE a>" is Doctype)
    ∷ ("</a>" is Finish 1 4)
    ∷ ("<a>" is start 1 2 3)
    ∷ ("<a/>" is alone 1 2 4)
    ∷ ("&lt;" is Reference 0x3C 4)
    ∷ ("a" is Text 1)
    ∷ ("a<b" is Text 1)
    ∷ ("ab&lt;" is Text 2)
    ∷ ("\n" is Text 1)
    ∷ (composed gives Text 2)
    ∷ ("" is Nothing)
    ∷ broken ("<" ∷ "<!" ∷ "<?" ∷ "</" ∷ "&" ∷ "<!-" ∷ "<![CDATA" ∷ "< a>" ∷ "<>" ∷ [])

-- ---- instructions and document types; a document type inside another item is no item

pub instructions : List (Row Item)
instructions =
    ("<?a b?>c" is Instruction 7)
    ∷ ("<?xml-s?>" is Instruction 9)
    ∷ ("<?xmls a?>" is Instruction 10)
    ∷ ("<?a <!DOCTYPE b>?>" is Instruction 18)
    ∷ broken ("<?xml version=\"1.0\"?>" ∷ "<?xml?>" ∷ "<?XML a?>" ∷ "<?xMl?>" ∷ "<? a?>" ∷ "<?a b>" ∷ "<?a?b?>" ∷ [])

pub doctypes : List (Row Item)
doctypes =
    ("<!DOCTYPE" is Doctype)
    ∷ ("<!DOCTYPEa" is Doctype)
    ∷ ("<!DOCTYPE a [<!ELEMENT a ANY>]>" is Doctype)
    ∷ ("a<!DOCTYPE a>" is Text 1)
    ∷ broken ("<!doctype a>" ∷ "<!DOCTYP" ∷ "<! DOCTYPE a>" ∷ "<!ELEMENT a>" ∷ "<a b='<!DOCTYPE'>" ∷ [])

-- ---- comments, sections and text

pub contents : List (Row Item)
contents =
    ("<!---->" is Comment 7)
    ∷ ("<!--->x-->" is Comment 10)
    ∷ ("<!-- a -->b-->" is Comment 10)
    ∷ ("<!--<!DOCTYPE a>-->" is Comment 19)
    ∷ ("<![CDATA[]]>]]>" is Section 12)
    ∷ ("<![CDATA[]]]]>" is Section 14)
    ∷ ("<![CDATA[<!DOCTYPE a>&b;]]>" is Section 27)
    ∷ (bytes "<![CDATA[]]>>a" at 12 gives Text 14)
    ∷ ("]]&gt;" is Text 2)
    ∷ (bytes "]]&gt;" at 2 gives Reference 0x3E 6)
    ∷ ("] ]>" is Text 4)
    ∷ ("a>b" is Text 3)
    ∷ broken
    ("<!-->" ∷ "<!--->" ∷ "<!----->" ∷ "<!-- -- -->" ∷ "<!-- --->" ∷ "<!-- a" ∷ "<![CDATA[]]" ∷ "<![cdata[]]>" ∷ "]]>" ∷ "a]]>b" ∷ "]]]><a>"
    ∷ [])

-- ---- references

pub references : List (Row Item)
references =
    ("&amp;" is Reference 0x26 5)
    ∷ ("&gt;a" is Reference 0x3E 4)
    ∷ ("&apos;" is Reference 0x27 6)
    ∷ ("&quot;" is Reference 0x22 6)
    ∷ ("&#65;" is Reference 65 5)
    ∷ ("&#x000e9;" is Reference 0xE9 9)
    ∷ ("&#x10FFFF;" is Reference 0x10FFFF 10)
    ∷ broken
    ("&;" ∷ "&lt" ∷ "& lt;" ∷ "&LT;" ∷ "&nbsp;" ∷ "&#;" ∷ "&#0;" ∷ "&#x;" ∷ "&#X41;" ∷ "&#xD800;" ∷ "&#xFFFE;" ∷ "&#x110000;"
    ∷ "&#18446744073709551681;" ∷ [])

-- ---- tags

pub tags : List (Row Item)
tags =
    ("</a >b" is Finish 1 5)
    ∷ (bytes "</" ++ composed ++ bytes ">" gives Finish 2 5)
    ∷ ("<a >" is start 1 3 4)
    ∷ ("<a\n/>" is alone 1 3 5)
    ∷ ("<a:b.c-1/>" is alone 7 8 10)
    ∷ (bytes "<" ++ decomposed ++ bytes ">" gives start 3 4 5)
    ∷ ("<a b='1' c = \"2\"\t>" is start 1 17 18)
    ∷ ("<a b=\"&lt;\">" is start 1 11 12)
    ∷ ("<a b='/>'/>" is alone 1 9 11)
    ∷ ("<a b='1' B='1'>" is start 1 14 15)
    ∷ ("<a a='1'>" is start 1 8 9)
    ∷ ("<a b='1' b='2'>" is Start 1 14 15 false true)
    ∷ ("<a b='' c='' b=''/>" is Start 1 17 19 true true)
    ∷ (bytes "<a" ++ attribute composed ++ attribute composed ++ bytes ">" gives Start 1 14 15 false true)
    ∷ (bytes "<a" ++ attribute composed ++ attribute decomposed ++ bytes ">" gives start 1 15 16)
    ∷ broken
    ("</a b>" ∷ "</ a>" ∷ "</a/>" ∷ "</>" ∷ "</a" ∷ "</1>" ∷ "<1>" ∷ "<a" ∷ "<a / >" ∷ "<a b>" ∷ "<a b=1>" ∷ "<a b='<'>" ∷ "<a b='&'>"
    ∷ "<a b='&c;'>" ∷ "<a b='1\">" ∷ "<a b=\"1\"c=\"2\">" ∷ "<a b='1' b='2'" ∷ "<a<b>" ∷ "<a/" ∷ [])

-- ---- sizes, and which fault decides: a broken production before a size, a size before a repeated attribute

-- 32 letters, each another
abbrev alphabet : List ℕ
alphabet = bytes "abcdefghijklmnopqrstuvwxyzABCDEF"

pub sizes : List (Row Item)
sizes =
    (bytes "<" ++ letters 255 ++ bytes ">" gives start 255 256 257)
    ∷ (bytes "<" ++ letters 256 ++ bytes ">" gives TooLarge)
    ∷ (bytes "<" ++ letters 255 ++ bytes "/>" gives alone 255 256 258)
    ∷ (bytes "<" ++ letters 256 ++ bytes "/>" gives TooLarge)
    ∷ (bytes "</" ++ letters 255 ++ bytes ">" gives Finish 255 258)
    ∷ (bytes "</" ++ letters 256 ++ bytes ">" gives TooLarge)
    ∷ (bytes "<a" ++ attribute (letters 255) ++ bytes ">" gives start 1 261 262)
    ∷ (bytes "<a" ++ attribute (letters 256) ++ bytes ">" gives TooLarge)
    ∷ (bytes "<" ++ letters 253 ++ composed ++ bytes ">" gives start 255 256 257)
    ∷ (bytes "<" ++ letters 254 ++ composed ++ bytes ">" gives TooLarge)
    ∷ (bytes "<?" ++ letters 256 ++ bytes "?>" gives Instruction 260)
    ∷ (bytes "<a" ++ attributes alphabet ++ bytes ">" gives start 1 162 163)
    ∷ (bytes "<a" ++ attributes alphabet ++ attribute (bytes "G") ++ bytes ">" gives TooLarge)
    ∷ (bytes "<a" ++ attributes alphabet ++ attribute (bytes "G") ++ bytes "/>" gives TooLarge)
    ∷ []

pub faults : List (Row Item)
faults =
    (bytes "<a" ++ attributes alphabet ++ attribute (bytes "F") ++ bytes ">" gives TooLarge)
    ∷ (bytes "<" ++ letters 256 ++ bytes " b='' b=''>" gives TooLarge)
    ∷ (bytes "<a" ++ attributes alphabet ++ attribute (bytes "G") ++ bytes " H>" gives Malformed)
    ∷ (bytes "<" ++ letters 256 ++ bytes " b=1>" gives Malformed)
    ∷ (bytes "</" ++ letters 256 ++ bytes " b>" gives Malformed)
    ∷ []

-- ---- the places of one document: its items one after another, places inside items, and those past the end

abbrev document : List ℕ
document = bytes "<g><!--c--><v k=\"1\" />a</g>\n"

pub places : List (Row Item)
places =
    (document at 0 gives start 1 2 3)
    ∷ (document at 3 gives Comment 11)
    ∷ (document at 11 gives alone 1 20 22)
    ∷ (document at 22 gives Text 23)
    ∷ (document at 23 gives Finish 1 27)
    ∷ (document at 27 gives Text 28)
    ∷ (document at 28 gives Nothing)
    ∷ (document at 29 gives Nothing)
    ∷ (document at 1 gives Text 3)
    ∷ (document at 4 gives Text 11)
    ∷ []

-- all of them, where another item comes before
abbrev pub others : List (Row Item)
others = kinds ++ instructions ++ doctypes ++ contents ++ references ++ tags ++ sizes ++ faults ++ places

pub others_computed : answers (item_at false) others ≡ expected others
unfolding kinds instructions doctypes contents references tags sizes faults places item_at kind_of declares ends_at tag_at end_tag_at tag_of
    end_tag_of piece_named before gather attribute_of small_tag instruction_of instruction_end target_of text_of comment_of section_of eq_of
    space_of skip value_of quoted_of many piece_of is_mark reference_of entity_ref_of char_ref_of digits_of ends_number digit_of is_decimal
    is_hexadecimal is_char name_of expect seek starts run character guess number utf8 is_scalar is_space is_name is_name_start is_name_more
others_computed = refl
