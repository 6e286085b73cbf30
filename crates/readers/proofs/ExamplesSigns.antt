-- Worked examples of characters with their origin, each table under one statement that antt computes: what stands in text, in a CDATA
-- section and in a value in either quotes, and beside it the characters that come and what they leave.
use mathlib.Core.Path.{◌≡◌, refl}
use mathlib.Core.List.{List, [], ◌∷◌}
use Prim.Native.Nat.{ℕ}
use Prim.Native.String.{String}
use Rattle.xml.specs.Utf8.{utf8, is_scalar}
use Rattle.xml.specs.Judged.{written}
use Rattle.xml.specs.Character.{value_of as number, guess, character}
use Rattle.xml.specs.Productions.{is_char, except, digit_of}
use Rattle.xml.specs.Sign.{Sign, literal, referred, Where, in_text, in_section, in_double, in_single}
use Rattle.utf8.proofs.Examples.{Row, ◌at◌gives◌, answers, expected}
use Rattle.readers.specs.Read.{expect, many}
use Rattle.readers.specs.Value.{is_decimal, is_hexadecimal, ends_number, digits_of, char_ref_of, entity_ref_of, reference_of}
use Rattle.readers.specs.Sign.{next_of, next_end, signs_in}

-- ---- how the tables are written

abbrev Signed : Type 0
Signed = List Sign × List ℕ

infix 10 ◌holds◌leaving◌
unfoldable ◌holds◌leaving◌ : String → List Sign → String → Row Signed
unfolding written
s holds xs leaving t = written s at 0 gives (xs, written t)

abbrev signed : Where → List (Row Signed) → List Signed
signed w = answers (λ s k. (signs_in w 0 s, many (next_end w) 0 s))

-- ---- in text: a reference is its character, and `<`, an `&` that begins none, and `]]>` are no characters

pub texts : List (Row Signed)
unfolding ◌holds◌leaving◌
texts =
    ("" holds [] leaving "")
    ∷ ("<a>" holds [] leaving "<a>")
    ∷ ("a&lt;b<" holds literal 0x61 ∷ referred 0x3C ∷ literal 0x62 ∷ [] leaving "<")
    ∷ ("é&#233;😀" holds literal 0xE9 ∷ referred 0xE9 ∷ literal 0x1F600 ∷ [] leaving "")
    ∷ ("\r\n&#13;\t" holds literal 0xD ∷ literal 0xA ∷ referred 0xD ∷ literal 0x9 ∷ [] leaving "")
    ∷ ("\"'>" holds literal 0x22 ∷ literal 0x27 ∷ literal 0x3E ∷ [] leaving "")
    ∷ ("a&b" holds literal 0x61 ∷ [] leaving "&b")
    ∷ ("&amp;amp;" holds referred 0x26 ∷ literal 0x61 ∷ literal 0x6D ∷ literal 0x70 ∷ literal 0x3B ∷ [] leaving "")
    ∷ ("]]&gt;" holds literal 0x5D ∷ literal 0x5D ∷ referred 0x3E ∷ [] leaving "")
    ∷ ("]]]>" holds literal 0x5D ∷ [] leaving "]]>")
    ∷ []

pub texts_computed : signed in_text texts ≡ expected texts
unfolding texts signs_in next_of many except is_char utf8 is_scalar character guess number reference_of entity_ref_of char_ref_of digits_of
    ends_number digit_of is_decimal is_hexadecimal expect
texts_computed = refl

-- ---- in a section: all stand for themselves, up to `]]>`

pub sections : List (Row Signed)
unfolding ◌holds◌leaving◌
sections =
    ("]]>" holds [] leaving "]]>")
    ∷ ("a&lt;]]>" holds literal 0x61 ∷ literal 0x26 ∷ literal 0x6C ∷ literal 0x74 ∷ literal 0x3B ∷ [] leaving "]]>")
    ∷ ("<&\"'é]]>x" holds literal 0x3C ∷ literal 0x26 ∷ literal 0x22 ∷ literal 0x27 ∷ literal 0xE9 ∷ [] leaving "]]>x")
    ∷ ("]]]]>" holds literal 0x5D ∷ literal 0x5D ∷ [] leaving "]]>")
    ∷ ("]>]" holds literal 0x5D ∷ literal 0x3E ∷ literal 0x5D ∷ [] leaving "")
    ∷ []

pub sections_computed : signed in_section sections ≡ expected sections
unfolding sections signs_in next_of many is_char utf8 is_scalar character guess number
sections_computed = refl

-- ---- in a value, up to its quote

pub doubles : List (Row Signed)
unfolding ◌holds◌leaving◌
doubles =
    ("\" b" holds [] leaving "\" b")
    ∷ ("'&quot;&apos;\"" holds literal 0x27 ∷ referred 0x22 ∷ referred 0x27 ∷ [] leaving "\"")
    ∷ ("\t&#9;\n&#xA;\"" holds literal 0x9 ∷ referred 0x9 ∷ literal 0xA ∷ referred 0xA ∷ [] leaving "\"")
    ∷ ("]]>\"" holds literal 0x5D ∷ literal 0x5D ∷ literal 0x3E ∷ [] leaving "\"")
    ∷ ("a<\"" holds literal 0x61 ∷ [] leaving "<\"")
    ∷ ("&x;\"" holds [] leaving "&x;\"")
    ∷ []

pub doubles_computed : signed in_double doubles ≡ expected doubles
unfolding doubles signs_in next_of many except is_char utf8 is_scalar character guess number reference_of entity_ref_of char_ref_of
    digits_of ends_number digit_of is_decimal is_hexadecimal expect
doubles_computed = refl

pub singles : List (Row Signed)
unfolding ◌holds◌leaving◌
singles =
    ("''" holds [] leaving "''")
    ∷ ("\"&apos;é'" holds literal 0x22 ∷ referred 0x27 ∷ literal 0xE9 ∷ [] leaving "'")
    ∷ ("&#x0000041;&#65;A'" holds referred 0x41 ∷ referred 0x41 ∷ literal 0x41 ∷ [] leaving "'")
    ∷ []

pub singles_computed : signed in_single singles ≡ expected singles
unfolding singles signs_in next_of many except is_char utf8 is_scalar character guess number reference_of entity_ref_of char_ref_of
    digits_of ends_number digit_of is_decimal is_hexadecimal expect
singles_computed = refl
