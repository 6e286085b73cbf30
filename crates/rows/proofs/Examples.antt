-- Worked by computing, and beside each what document 02 and RFC 4180 say: fields, with each byte for which one is quoted, and one past
-- them; line ends; what an item says; the text of an element and the records of a forest; the table of a document.
use mathlib.Core.Path.{◌≡◌, refl}
use mathlib.Core.List.{List, [], ◌∷◌, ◌++◌}
use Prim.Native.Nat.{ℕ}
use Prim.Native.String.{String}
use Rattle.xml.specs.Notation.{bytes}
use Rattle.xml.specs.Utf8.{utf8}
use Rattle.xml.specs.Productions.{is_char, digit_of}
use Rattle.xml.specs.Forest.{Forest, nil, other, elem, end_tag}
use Rattle.readers.specs.Read.{expect}
use Rattle.readers.specs.Value.{is_decimal, is_hexadecimal, ends_number, digits_of, char_ref_of, entity_ref_of, reference_of}
use Rattle.matcher.specs.declared.Verdict.TheVariants.{Unselected, Selected, Marked}
use Rattle.trees.specs.Cut.{Judge}
use Rattle.rows.specs.Field.{field, record_of, header}
use Rattle.rows.specs.Text.{line_by, lines_from, lines, content, said_of}
use Rattle.rows.specs.Table.{records}

-- ---- a field: an empty one, a comma, a quote with no comma, CR, LF; a semicolon, a blank and a tab are none of them
fields : (field [] ≡ []) × (field (bytes "Aar; a\tb") ≡ bytes "Aar; a\tb") × (field (bytes "a,b") ≡ bytes "\"a,b\"")
    × (field (bytes "\"") ≡ bytes "\"\"\"\"") × (field (bytes "a\"b\"") ≡ bytes "\"a\"\"b\"\"\"")
    × (field (0xD ∷ []) ≡ 0x22 ∷ 0xD ∷ 0x22 ∷ []) × (field (0xA ∷ []) ≡ 0x22 ∷ 0xA ∷ 0x22 ∷ [])
    × (field (bytes "'") ≡ bytes "'") × (field (0xC3 ∷ 0xAC ∷ []) ≡ 0xC3 ∷ 0xAC ∷ [])
unfolding field
fields = (refl, refl, refl, refl, refl, refl, refl, refl, refl)

-- ---- line ends: CR, CR LF, LF, CR CR, LF CR, CR CR LF
ends : (lines (0xD ∷ []) ≡ 0xA ∷ []) × (lines (0xD ∷ 0xA ∷ []) ≡ 0xA ∷ []) × (lines (0xA ∷ []) ≡ 0xA ∷ [])
    × (lines (0xD ∷ 0xD ∷ []) ≡ 0xA ∷ 0xA ∷ []) × (lines (0xA ∷ 0xD ∷ []) ≡ 0xA ∷ 0xA ∷ [])
    × (lines (0xD ∷ 0xD ∷ 0xA ∷ []) ≡ 0xA ∷ 0xA ∷ []) × (lines (0xD ∷ 0x61 ∷ 0xA ∷ []) ≡ 0xA ∷ 0x61 ∷ 0xA ∷ [])
unfolding lines lines_from line_by
ends = (refl, refl, refl, refl, refl, refl, refl)

-- ---- what an item says: text; sections; comments and instructions; references, of which those of CR and LF stay
says : (said_of (bytes "a b") ≡ bytes "a b") × (said_of (0x61 ∷ 0xD ∷ 0xA ∷ []) ≡ 0x61 ∷ 0xA ∷ [])
    × (said_of (bytes "<![CDATA[]]>") ≡ []) × (said_of (bytes "<![CDATA[<&amp;]]]>") ≡ bytes "<&amp;]")
    × (said_of (bytes "<![CDATA[" ++ (0xD ∷ bytes "]]>")) ≡ 0xA ∷ []) × (said_of (bytes "<!--a-->") ≡ []) × (said_of (bytes "<?a b?>") ≡ [])
    × (said_of (bytes "&lt;") ≡ bytes "<") × (said_of (bytes "&#13;") ≡ 0xD ∷ []) × (said_of (bytes "&#xA;") ≡ 0xA ∷ [])
    × (said_of (bytes "&#233;") ≡ 0xC3 ∷ 0xA9 ∷ []) × (said_of (bytes "&#x10FFFF;") ≡ 0xF4 ∷ 0x8F ∷ 0xBF ∷ 0xBF ∷ [])
unfolding said_of lines lines_from line_by content reference_of entity_ref_of char_ref_of digits_of ends_number is_decimal is_hexadecimal
    digit_of is_char expect utf8
says = (refl, refl, refl, refl, refl, refl, refl, refl, refl, refl, refl, refl)

-- ---- elements: one of a name with these items, before others
abbrev element : String → Forest → Forest → Forest
element n kids rest = elem (record { name = bytes n; head = bytes "<" ++ bytes n; tail = bytes ">" }) kids (end_tag (bytes n)) rest

abbrev empty : String → Forest → Forest
empty n rest = elem (record { name = bytes n; head = bytes "<" ++ bytes n; tail = bytes "/>" }) nil [] rest

-- <g>a<p>b<v/>c</p><!--x-->CR<![CDATA[LF]]>CR&#10;</g>: CR and LF of two items are two line ends
abbrev sample : Forest
sample =
    element "g"
    (other (bytes "a") (element "p" (other (bytes "b") (empty "v" (other (bytes "c") nil))) (other (bytes "<!--x-->")
    (other (0xD ∷ []) (other (bytes "<![CDATA[" ++ (0xA ∷ bytes "]]>")) (other (0xD ∷ []) (other (bytes "&#10;") nil)))))))
    nil

abbrev every : Judge
every up xs = Selected

-- those below the root, which are marked; and the others, which are not selected
abbrev below : Judge
below [] xs = Unselected
below (n ∷ []) xs = Unselected
below (n ∷ m ∷ up) xs = Marked

abbrev never : Judge
never up xs = Unselected

abbrev ended : List ℕ → List ℕ
ended s = s ++ (0xD ∷ 0xA ∷ [])

tables : (records every [] sample
    ≡ ended (bytes "g,\"a" ++ (0xA ∷ 0xA ∷ 0xA ∷ 0xA ∷ bytes "\"")) ++ (ended (bytes "g/p,bc") ++ ended (bytes "g/p/v,")))
    × (records below [] sample ≡ ended (bytes "g/p,bc") ++ ended (bytes "g/p/v,")) × (records never [] sample ≡ [])
    × (header ≡ ended (bytes "path,text"))
unfolding record_of header field said_of lines lines_from line_by content reference_of entity_ref_of char_ref_of digits_of ends_number
    is_decimal is_hexadecimal digit_of is_char expect utf8
tables = (refl, refl, refl, refl)
