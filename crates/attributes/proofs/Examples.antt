-- Worked examples, by computing. First values, each in its quotes, and what they are made normal; then the attributes of tags, as names and
-- values; then whether an attribute is among them. In values `\n` and the like are characters that stand there, and `&#10;` a reference;
-- no blanks are trimmed.
use mathlib.Core.Path.{◌≡◌, refl}
use mathlib.Core.Bool.{Bool, true, false, ◌&&◌}
use mathlib.Core.List.{List, [], ◌∷◌, map}
use Prim.Native.String.{String}
use Rattle.xml.specs.Utf8.{utf8, is_scalar}
use Rattle.xml.specs.Notation.{bytes}
use Rattle.xml.specs.Judged.{written}
use Rattle.xml.specs.Character.{value_of, guess, character, starts, run}
use Rattle.xml.specs.Productions.{same, is_char, except, digit_of, is_space, is_name, is_name_start, is_name_more}
use Rattle.chars.specs.Name.{name_of}
use Rattle.readers.specs.Read.{expect, many, skip, space_of}
use Rattle.readers.specs.Plain.{is_mark}
use Rattle.readers.specs.Named.{before, eq_of, piece_named}
use Rattle.readers.specs.Sign.{next_of, signs_in}
use Rattle.readers.specs.Value as readers
use Rattle.readers.specs.Value.{is_decimal, is_hexadecimal, ends_number, digits_of, char_ref_of, entity_ref_of, reference_of, piece_of}
use Rattle.readers.specs.Value.{quoted_of}
use Rattle.attributes.specs.Normal.{lines_from, lines, char_of, encoded, normal}
use Rattle.attributes.specs.Attribute.{Attribute, attribute}
use Rattle.attributes.specs.Held.{normal_at, held_of, attributes_in, attributes_of, has_attribute}

-- ---- values

unfoldable pub normals : List (String × String) → Bool
unfolding written utf8 normal_at signs_in next_of except reference_of entity_ref_of char_ref_of digits_of expect is_decimal is_hexadecimal
    ends_number digit_of is_char character guess value_of is_scalar normal lines lines_from char_of encoded
normals [] = true
normals (x ∷ xs) = same (normal_at (written x.0)) (written x.1) && normals xs

pub plain_values : normals (
    ("\"\"", "") ∷ ("''", "") ∷ ("\"village\"", "village") ∷ ("'village'", "village") ∷ ("\"a'b\"", "a'b") ∷ ("'a\"b'", "a\"b")
    ∷ ("\"a>b/]#\"", "a>b/]#") ∷ ("\" a  b \"", " a  b ") ∷ ("\"é€😀\"", "é€😀") ∷ ("'\u{85}\u{2028}\u{7f}'", "\u{85}\u{2028}\u{7f}") ∷ [])
    ≡ true
unfolding normals
plain_values = refl

pub references : normals (
    ("\"&amp;&lt;&gt;&apos;&quot;\"", "&<>'\"") ∷ ("\"&#65;&#x41;&#x00041;&#0065;\"", "AAAA") ∷ ("\"&#xe9;&#xE9;&#233;\"", "ééé")
    ∷ ("\"&#x20AC;&#x1F600;\"", "€😀") ∷ ("\"&amp;#65;\"", "&#65;") ∷ ("\"&#38;lt;\"", "&lt;") ∷ ("'vill&#97;ge'", "village")
    ∷ ("\"&#x10FFFF;\"", "\u{10ffff}") ∷ ("\"&#x20;\"", " ") ∷ [])
    ≡ true
unfolding normals
references = refl

-- literal tab, LF, CR and CR LF are a space each; what a reference says stays
pub blanks : normals (
    ("\"a\tb\"", "a b") ∷ ("\"a\nb\"", "a b") ∷ ("\"a\rb\"", "a b") ∷ ("\"a\r\nb\"", "a b") ∷ ("\"a\n\rb\"", "a  b")
    ∷ ("\"a\r\rb\"", "a  b") ∷ ("\"a\r\r\nb\"", "a  b") ∷ ("\"a\r\n\nb\"", "a  b") ∷ ("\"\t\r\n\"", "  ")
    ∷ ("\"&#9;\"", "\t") ∷ ("\"&#10;\"", "\n") ∷ ("\"&#xD;\"", "\r") ∷ ("\"&#13;&#10;\"", "\r\n") ∷ ("\"&#32;\"", " ")
    ∷ ("\"\r&#10;\"", " \n") ∷ ("\"&#13;\n\"", "\r ") ∷ ("\"\r&#65;\n\"", " A ") ∷ ("\"\ra\n\"", " a ") ∷ [])
    ≡ true
unfolding normals
blanks = refl

-- é composed is one character, decomposed two: the values differ as their bytes do, however é is written
pub accents : map (λ (x : String). normal_at (written x)) ("\"é\"" ∷ "\"&#233;\"" ∷ "\"é\"" ∷ "\"e&#769;\"" ∷ [])
    ≡ (0xC3 ∷ 0xA9 ∷ []) ∷ (0xC3 ∷ 0xA9 ∷ []) ∷ (0x65 ∷ 0xCC ∷ 0x81 ∷ []) ∷ (0x65 ∷ 0xCC ∷ 0x81 ∷ []) ∷ []
unfolding written utf8 normal_at signs_in next_of except reference_of entity_ref_of char_ref_of digits_of expect is_decimal is_hexadecimal
    ends_number digit_of is_char character guess value_of is_scalar normal lines lines_from char_of encoded
accents = refl

-- ---- tags

unfoldable pub agree : List Attribute → List (String × String) → Bool
unfolding written utf8
agree [] [] = true
agree [] (y ∷ ys) = false
agree (x ∷ xs) [] = false
agree (x ∷ xs) (y ∷ ys) = (same x.name (written y.0) && same x.value (written y.1)) && agree xs ys

-- those that stand in s
unfoldable pub listed : String → List Attribute
unfolding written utf8 attributes_in held_of space_of skip starts run piece_named name_of is_space is_name is_name_start is_name_more before
    eq_of expect readers.value_of quoted_of many piece_of is_mark reference_of entity_ref_of char_ref_of digits_of normal_at signs_in
    next_of except is_decimal is_hexadecimal ends_number digit_of is_char character guess value_of is_scalar normal lines lines_from char_of
    encoded
listed s = attributes_in 0 (written s)

unfoldable pub lists : List (String × List (String × String)) → Bool
unfolding agree listed
lists [] = true
lists ((s, xs) ∷ l) = agree (listed s) xs && lists l

pub tags : lists (
    ("", []) ∷ ("  ", []) ∷ (" k=\"1\"", ("k", "1") ∷ []) ∷ (" k = '1' ", ("k", "1") ∷ []) ∷ ("\n\ta='<'", [])
    ∷ (" k\r\n=\t\"1\"", ("k", "1") ∷ []) ∷ (" type=\"vill&#97;ge\" x:y='a\nb'\t", ("type", "village") ∷ ("x:y", "a b") ∷ [])
    ∷ (" é=\"é\"", ("é", "é") ∷ []) ∷ (" a=\"\" b='\"' c=\"'\"", ("a", "") ∷ ("b", "\"") ∷ ("c", "'") ∷ [])
    ∷ (" a='1'b='2'", ("a", "1") ∷ []) ∷ (" a='1' a='2'", ("a", "1") ∷ ("a", "2") ∷ []) ∷ ("a='1'", [])
    ∷ (" a='&#x110000;'", []) ∷ (" a='1' b='&#0;'", ("a", "1") ∷ []) ∷ [])
    ≡ true
unfolding lists
tags = refl

-- a tag keeps its attributes in its head, behind its name
pub in_head : attributes_of (record { name = bytes "v"; head = bytes "<v k='1'"; tail = bytes "/>" })
    ≡ attribute (bytes "k") (bytes "1") ∷ []
unfolding attributes_of attributes_in held_of space_of skip starts run piece_named name_of is_space is_name is_name_start is_name_more
    before eq_of expect readers.value_of quoted_of many piece_of is_mark reference_of entity_ref_of char_ref_of digits_of normal_at signs_in
    next_of except is_decimal is_hexadecimal ends_number digit_of is_char character guess value_of is_scalar normal lines lines_from char_of
    encoded utf8
in_head = refl

-- ---- whether one is among them: an absent attribute has no value, not even the empty one

abbrev has : String → String × String → Bool
has s x = has_attribute (listed s) (written x.0) (written x.1)

pub among : map (has " type=\"vill&#97;ge\" k='' n='a\r\nb' m='a&#10;b'") (
    ("type", "village") ∷ ("k", "") ∷ ("n", "a b") ∷ ("type", "villag") ∷ ("typ", "village") ∷ ("absent", "") ∷ ("k", "village")
    ∷ ("m", "a b") ∷ ("n", "a  b") ∷ ("TYPE", "village") ∷ [])
    ≡ true ∷ true ∷ true ∷ false ∷ false ∷ false ∷ false ∷ false ∷ false ∷ false ∷ []
unfolding listed has_attribute written utf8
among = refl
