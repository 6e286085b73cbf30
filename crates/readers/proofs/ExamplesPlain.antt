-- Worked examples of the readers of text, comments, sections, references and values, each table under one statement that antt computes:
-- texts, and beside them what is left by the Recommendation, for a reference also what it says, or that there is no such item. In order:
-- how the tables are written; [15] Comment; [18] CDSect; [14] CharData up to where it stops; [68] EntityRef; [66] CharRef; [10] AttValue.
use mathlib.Core.Path.{◌≡◌, refl}
use mathlib.Core.List.{List, [], ◌∷◌}
use mathlib.Core.Option.{Option, none, some}
use Prim.Native.Nat.{ℕ}
use Prim.Native.String.{String}
use Rattle.xml.specs.Judged.{written}
use Rattle.xml.specs.Productions.{is_char, digit_of}
use Rattle.utf8.proofs.Examples.{Row, ◌at◌gives◌, answers, expected}
use Rattle.readers.specs.Read.{expect, seek, many}
use Rattle.readers.specs.Plain.{is_mark, text_of, comment_of, section_of}
use Rattle.readers.specs.Value.{is_decimal, is_hexadecimal, ends_number, Said, saying, digits_of, char_ref_of, entity_ref_of, reference_of}
use Rattle.readers.specs.Value.{piece_of, quoted_of, value_of}

-- ---- how the tables are written

abbrev Left : Type 0
Left = Row (Option (List ℕ))

-- at the front of s stands an item, and t is left
infix 10 ◌leaves◌
unfoldable ◌leaves◌ : String → String → Left
unfolding written
s leaves t = written s at 0 gives some (written t)

-- at the front of s stands no such item
unfoldable refused : String → Left
unfolding written
refused s = written s at 0 gives none

abbrev left : (List ℕ → Option (List ℕ)) → List Left → List (Option (List ℕ))
left f = answers (λ s k. f s)

-- ---- [15] Comment

pub comments : List Left
unfolding ◌leaves◌ refused
comments =
    ("<!---->" leaves "")
    ∷ ("<!---->x" leaves "x")
    ∷ ("<!-- a -->b-->" leaves "b-->")
    ∷ ("<!-- é😀 -->" leaves "")
    ∷ ("<!-- <a> & ]]> ?> -->" leaves "")
    ∷ ("<!-- - -->" leaves "")
    ∷ ("<!--a-b-->" leaves "")
    ∷ ("<!-->-->" leaves "")
    ∷ ("<!--->-->" leaves "")
    ∷ ("<!--->x-->" leaves "")
    ∷ ("<!---->-->" leaves "-->")
    ∷ refused ""
    ∷ refused "<!-->"
    ∷ refused "<!--->"
    ∷ refused "<!----->"
    ∷ refused "<!------>"
    ∷ refused "<!-- -- -->"
    ∷ refused "<!-- a--b -->"
    ∷ refused "<!-- --->"
    ∷ refused "<!-- -- >"
    ∷ refused "<!--"
    ∷ refused "<!-- a"
    ∷ refused "<!-- a --"
    ∷ refused "<!- a -->"
    ∷ refused " <!---->"
    ∷ []

pub comments_computed : left comment_of comments ≡ expected comments
unfolding comments comment_of expect seek
comments_computed = refl

-- ---- [18] CDSect

pub sections : List Left
unfolding ◌leaves◌ refused
sections =
    ("<![CDATA[]]>" leaves "")
    ∷ ("<![CDATA[a]]>b" leaves "b")
    ∷ ("<![CDATA[é😀]]>" leaves "")
    ∷ ("<![CDATA[<a>&b;-->]]>" leaves "")
    ∷ ("<![CDATA[>]]>" leaves "")
    ∷ ("<![CDATA[]]]>" leaves "")
    ∷ ("<![CDATA[]]]]>" leaves "")
    ∷ ("<![CDATA[]] >]]>" leaves "")
    ∷ ("<![CDATA[]]>]]>" leaves "]]>")
    ∷ ("<![CDATA[<![CDATA[]]>]]>" leaves "]]>")
    ∷ refused ""
    ∷ refused "<![CDATA["
    ∷ refused "<![CDATA[]]"
    ∷ refused "<![CDATA[]>"
    ∷ refused "<![CDATA[]]&gt;"
    ∷ refused "<![CDATA]]>"
    ∷ refused "<![CDATA []]>"
    ∷ refused "<![cdata[]]>"
    ∷ refused "]]>"
    ∷ []

pub sections_computed : left section_of sections ≡ expected sections
unfolding sections section_of expect seek
sections_computed = refl

-- ---- [14] CharData, up to the next `<`, `&` or the end

pub char_data : List Left
unfolding ◌leaves◌ refused
char_data =
    ("" leaves "")
    ∷ ("a" leaves "")
    ∷ ("<a>" leaves "<a>")
    ∷ ("a<b" leaves "<b")
    ∷ ("a&amp;b" leaves "&amp;b")
    ∷ (";b&" leaves "&")
    ∷ ("é😀<" leaves "<")
    ∷ ("a>b" leaves "")
    ∷ ("]]" leaves "")
    ∷ ("]>" leaves "")
    ∷ ("] ]>" leaves "")
    ∷ ("]é]>" leaves "")
    ∷ ("]]&gt;" leaves "&gt;")
    ∷ ("]]<a>" leaves "<a>")
    ∷ (">a" leaves "")
    ∷ ("a<b]]>" leaves "<b]]>")
    ∷ refused "]]>"
    ∷ refused "]]]>"
    ∷ refused "a]]>b"
    ∷ refused "é]]><b"
    ∷ refused "]]>&"
    ∷ []

pub char_data_computed : left text_of char_data ≡ expected char_data
unfolding char_data text_of
char_data_computed = refl

-- ---- [68] EntityRef, of the five names

abbrev Saying : Type 0
Saying = Row (Option Said)

-- at the front of s stands a reference that says c, and t is left
infix 10 ◌says◌leaving◌
unfoldable ◌says◌leaving◌ : String → ℕ → String → Saying
unfolding written
s says c leaving t = written s at 0 gives saying c (written t)

-- at the front of s stands no reference
unfoldable silent : String → Saying
unfolding written
silent s = written s at 0 gives none

pub entities : List Saying
unfolding ◌says◌leaving◌ silent
entities =
    ("&amp;" says 0x26 leaving "")
    ∷ ("&lt;a" says 0x3C leaving "a")
    ∷ ("&gt;" says 0x3E leaving "")
    ∷ ("&apos;" says 0x27 leaving "")
    ∷ ("&quot;" says 0x22 leaving "")
    ∷ ("&amp;amp;" says 0x26 leaving "amp;")
    ∷ silent ""
    ∷ silent "&"
    ∷ silent "&;"
    ∷ silent "&amp"
    ∷ silent "&amp "
    ∷ silent "&amp ;"
    ∷ silent "& amp;"
    ∷ silent "&AMP;"
    ∷ silent "&ampx;"
    ∷ silent "&am;"
    ∷ silent "&foo;"
    ∷ silent "amp;"
    ∷ []

pub entities_computed : answers (λ s k. reference_of s) entities ≡ expected entities
unfolding entities reference_of entity_ref_of char_ref_of digits_of ends_number is_decimal is_hexadecimal expect
entities_computed = refl

-- ---- [66] CharRef: the least and the greatest numbers of [2], those next to them, and numbers past 2⁶⁴ that are no Char's

pub numbers : List Saying
unfolding ◌says◌leaving◌ silent
numbers =
    ("&#65;" says 65 leaving "")
    ∷ ("&#x41;b" says 0x41 leaving "b")
    ∷ ("&#xe9;" says 0xE9 leaving "")
    ∷ ("&#xE9;" says 0xE9 leaving "")
    ∷ ("&#9;" says 9 leaving "")
    ∷ ("&#xA;" says 0xA leaving "")
    ∷ ("&#13;" says 13 leaving "")
    ∷ ("&#32;" says 32 leaving "")
    ∷ ("&#xD7FF;" says 0xD7FF leaving "")
    ∷ ("&#xE000;" says 0xE000 leaving "")
    ∷ ("&#xFFFD;" says 0xFFFD leaving "")
    ∷ ("&#x10000;" says 0x10000 leaving "")
    ∷ ("&#x10FFFF;" says 0x10FFFF leaving "")
    ∷ ("&#1114111;" says 0x10FFFF leaving "")
    ∷ ("&#0000000065;" says 65 leaving "")
    ∷ ("&#x00000000000000000000041;" says 0x41 leaving "")
    ∷ ("&#10;" says 10 leaving "")
    ∷ ("&#x20;" says 0x20 leaving "")
    ∷ ("&#233;é" says 0xE9 leaving "é")
    ∷ ("&#x1f600;" says 0x1F600 leaving "")
    ∷ ("&#128512;" says 0x1F600 leaving "")
    ∷ ("&#x26;amp;" says 0x26 leaving "amp;")
    ∷ silent "&#;"
    ∷ silent "&#x;"
    ∷ silent "&#X41;"
    ∷ silent "&#0;"
    ∷ silent "&#x0;"
    ∷ silent "&#8;"
    ∷ silent "&#xB;"
    ∷ silent "&#20;"
    ∷ silent "&#x10;"
    ∷ silent "&#31;"
    ∷ silent "&#xD800;"
    ∷ silent "&#xDFFF;"
    ∷ silent "&#xFFFE;"
    ∷ silent "&#65535;"
    ∷ silent "&#x110000;"
    ∷ silent "&#1114112;"
    ∷ silent "&#4294967361;"
    ∷ silent "&#x100000041;"
    ∷ silent "&#18446744073709551681;"
    ∷ silent "&#x10000000000000041;"
    ∷ silent "&#99999999999999999999;"
    ∷ silent "&#65"
    ∷ silent "&#x41"
    ∷ silent "&#6 5;"
    ∷ silent "&#65 ;"
    ∷ silent "&# 65;"
    ∷ silent "& #65;"
    ∷ silent "&#-65;"
    ∷ silent "&#6A;"
    ∷ silent "&#x4G;"
    ∷ silent "&#xx41;"
    ∷ silent "#65;"
    ∷ []

pub numbers_computed : answers (λ s k. reference_of s) numbers ≡ expected numbers
unfolding numbers reference_of entity_ref_of char_ref_of digits_of ends_number is_decimal is_hexadecimal digit_of is_char expect
numbers_computed = refl

-- ---- [10] AttValue

pub values : List Left
unfolding ◌leaves◌ refused
values =
    ("\"\"" leaves "")
    ∷ ("''x" leaves "x")
    ∷ ("\"a\">" leaves ">")
    ∷ ("'a' b='c'" leaves " b='c'")
    ∷ ("\"'\"" leaves "")
    ∷ ("'\"'" leaves "")
    ∷ ("\"a\"\"" leaves "\"")
    ∷ ("\"é😀\"" leaves "")
    ∷ ("'\n\t'" leaves "")
    ∷ ("\"a>b\"" leaves "")
    ∷ ("']]>'" leaves "")
    ∷ ("\"&lt;\"" leaves "")
    ∷ ("'&quot;&apos;'" leaves "")
    ∷ ("\"a&#x22;b&#39;\"c" leaves "c")
    ∷ refused ""
    ∷ refused "a"
    ∷ refused " \"a\""
    ∷ refused "\""
    ∷ refused "'a"
    ∷ refused "\"a'"
    ∷ refused "'a\""
    ∷ refused "'<'"
    ∷ refused "\"a<b\""
    ∷ refused "\"<a>\""
    ∷ refused "\"&\""
    ∷ refused "'& '"
    ∷ refused "\"&lt\""
    ∷ refused "'&foo;'"
    ∷ refused "\"&#0;\""
    ∷ refused "\"&#x;\""
    ∷ refused "“a”"
    ∷ []

pub values_computed : left value_of values ≡ expected values
unfolding values value_of quoted_of piece_of is_mark many reference_of entity_ref_of char_ref_of digits_of ends_number is_decimal
    is_hexadecimal digit_of is_char expect
values_computed = refl
