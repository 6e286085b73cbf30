-- Worked examples of mending, tables that antt computes: documents, and beside them what is handed back by document 02, the four numbers
-- and the whole buffer after, from a buffer of dots. In order: the request's own example; items that stop half way; faults in the middle
-- and outside the root; no root tag; bad characters; the three front bytes; encodings; room; sizes. Then every prefix of a small document.
use mathlib.Core.Path.{◌≡◌, refl}
use mathlib.Core.List.{List, [], ◌∷◌, ◌++◌, map}
use Prim.Native.Nat.{ℕ, zero, suc}
use Prim.Native.String.{String}
use lib.ListN.{length, take, drop, replicate}
use Rattle.xml.specs.Utf8.{utf8, is_scalar}
use Rattle.xml.specs.Notation.{bytes}
use Rattle.xml.specs.Productions.{is_char, is_space, is_name_start, is_name_more, is_name, digit_of}
use Rattle.xml.specs.Character.{value_of as number, guess, character, starts, run}
use Rattle.utf8.specs.Place.{ends_at}
use Rattle.chars.specs.Name.{name_of}
use Rattle.chars.specs.Space.{space_end}
use Rattle.chars.specs.Check.{check_of}
use Rattle.readers.specs.Read.{expect, seek, skip, space_of, many}
use Rattle.readers.specs.Plain.{is_mark, text_of, comment_of, section_of}
use Rattle.readers.specs.Value.{is_decimal, is_hexadecimal, ends_number, digits_of, char_ref_of, entity_ref_of, reference_of}
use Rattle.readers.specs.Value.{piece_of, quoted_of, value_of}
use Rattle.readers.specs.Named.{before, target_of, instruction_end, instruction_of, eq_of, version_of, is_letter, is_encoding, encoding_of}
use Rattle.readers.specs.Named.{yes_or_no, declaration_of, other_of, other_encoding, piece_named, attribute_of, gather, tag_of, end_tag_of}
use Rattle.readers.specs.Named.{small_tag}
use Rattle.tags.specs.Tag.{tag_at, end_tag_at}
use Rattle.items.specs.Item.{declares, kind_of, item_at}
use Rattle.document.specs.Place.{blank}
use Rattle.document.specs.Judge.{front, start_of, scan_from, scanned}
use Rattle.mend.specs.Kept.{readable, kept_from, kept_of}
use Rattle.mend.specs.Mended.{mended_of}
use Rattle.mend.specs.Answer.{fault_at, answer_of, bytes_after, number_of, second_of, kept_number, added_number}

-- what is handed back: four numbers, and the buffer after
pub record Outcome : Type 0 where
  pub first : ℕ
  pub second : ℕ
  pub kept : ℕ
  pub added : ℕ
  pub buffer : List ℕ

pub record Row : Type 0 where
  pub doc : List ℕ
  pub room : ℕ
  pub outcome : Outcome

abbrev dots : ℕ → List ℕ
dots n = replicate n 46

-- w is written into `room` bytes, of which k are kept, and n end tags are added
abbrev wrote : List ℕ → ℕ → ℕ → ℕ → Outcome
wrote w room k n = record { first = 0; second = length w; kept = k; added = n; buffer = w ++ drop (length w) (dots room) }

abbrev denied : ℕ → ℕ → ℕ → Outcome
denied n second room = record { first = n; second = second; kept = 0; added = 0; buffer = dots room }

-- room for 60 bytes
infix 10 ◌mends◌kept◌added◌
abbrev ◌mends◌kept◌added◌ : List ℕ → List ℕ → ℕ → ℕ → Row
d mends w kept k added n = record { doc = d; room = 60; outcome = wrote w 60 k n }

infix 10 ◌gives◌kept◌added◌
abbrev ◌gives◌kept◌added◌ : String → String → ℕ → ℕ → Row
d gives w kept k added n = bytes d mends bytes w kept k added n

infix 10 ◌within◌refused◌at◌
abbrev ◌within◌refused◌at◌ : List ℕ → ℕ → ℕ → ℕ → Row
d within room refused n at k = record { doc = d; room = room; outcome = denied n k room }

infix 10 ◌refused◌at◌
abbrev ◌refused◌at◌ : String → ℕ → ℕ → Row
d refused n at k = bytes d within 60 refused n at k

abbrev answered : Row → Outcome
answered r =
    let a = answer_of r.doc r.room in
    record {
      first = number_of a;
      second = second_of a;
      kept = kept_number a;
      added = added_number a;
      buffer = bytes_after r.doc (dots r.room);
    }

-- ---- documents that stop half way, and faults of kinds 6 and 7

pub rows : List Row
rows =
    ("<g><n>Aar" gives "<g><n></n></g>" kept 6 added 2)
    -- sound documents come back
    ∷ ("<g/>" gives "<g/>" kept 4 added 0)
    ∷ ("<g>a</g > \n" gives "<g>a</g > \n" kept 11 added 0)
    -- inside a tag, a value, a comment, a section, an instruction, a reference, an end tag: the text before is whole
    ∷ ("<g>a<n " gives "<g>a</g>" kept 4 added 1)
    ∷ ("<g>a<n k='1" gives "<g>a</g>" kept 4 added 1)
    ∷ ("<g>a<!-- b --" gives "<g>a</g>" kept 4 added 1)
    ∷ ("<g>a]]<![CDATA[b]" gives "<g>a]]</g>" kept 6 added 1)
    ∷ ("<g>a<?p b?" gives "<g>a</g>" kept 4 added 1)
    ∷ ("<g>a&am" gives "<g>a</g>" kept 4 added 1)
    ∷ ("<g><n>a</n" gives "<g><n>a</n></g>" kept 7 added 2)
    -- between items: the last one is whole and no text; but a text, blank or not, is dropped
    ∷ ("<g>&amp;" gives "<g>&amp;</g>" kept 8 added 1)
    ∷ ("<g><![CDATA[a]]>" gives "<g><![CDATA[a]]></g>" kept 16 added 1)
    ∷ ("<g><!-- a -->" gives "<g><!-- a --></g>" kept 13 added 1)
    ∷ ("<g><?p?>" gives "<g><?p?></g>" kept 8 added 1)
    ∷ ("<g><n/>" gives "<g><n/></g>" kept 7 added 1)
    ∷ ("<g><n></n>" gives "<g><n></n></g>" kept 10 added 1)
    ∷ ("<g>&amp;a" gives "<g>&amp;</g>" kept 8 added 1)
    ∷ ("<g > \n" gives "<g ></g>" kept 4 added 1)
    -- the fault's item is not kept: a wrong end tag, `]]>`, a `<` in a value, `--` in a comment, a reference to no character, an
    -- attribute twice, a target `xml`
    ∷ ("<g><v></g>" gives "<g><v></v></g>" kept 6 added 2)
    ∷ ("<g>a]]>b</g>" gives "<g></g>" kept 3 added 1)
    ∷ ("<g><n k='<'/></g>" gives "<g></g>" kept 3 added 1)
    ∷ ("<g>a<!-- a -- b --></g>" gives "<g>a</g>" kept 4 added 1)
    ∷ ("<g>a&#0;</g>" gives "<g>a</g>" kept 4 added 1)
    ∷ ("<g><v a='' a=''/></g>" gives "<g></g>" kept 3 added 1)
    ∷ ("<g><?xml?></g>" gives "<g></g>" kept 3 added 1)
    -- a document type: inside the root, after it
    ∷ ("<g>a<!DOCTYPE g></g>" gives "<g>a</g>" kept 4 added 1)
    ∷ ("<g/> <!DOCTYPE g>" gives "<g/> " kept 5 added 0)
    -- after the root: text, a second root, an end tag, a comment that stops half way
    ∷ ("<g/>x" gives "<g/>" kept 4 added 0)
    ∷ ("<g/> <h/>" gives "<g/> " kept 5 added 0)
    ∷ ("<g></g></g>" gives "<g></g>" kept 7 added 0)
    ∷ ("<g/> <!-- a" gives "<g/> " kept 5 added 0)
    ∷ ("<g/>&amp;" gives "<g/>" kept 4 added 0)
    -- no root tag: nothing, white space, a declaration, comments; in the prolog a document type, text, a tag that is not whole
    ∷ ("" refused 12 at 0)
    ∷ (" \n" refused 12 at 2)
    ∷ ("<?xml version='1.0'?>" refused 12 at 21)
    ∷ ("<!-- a --><?p?>" refused 12 at 15)
    ∷ ("<!DOCTYPE g><g/>" refused 12 at 0)
    ∷ ("<!-- a --><!DOCTYPE g><g/>" refused 12 at 10)
    ∷ (" a<g/>" refused 12 at 0)
    ∷ ("&lt;<g/>" refused 12 at 0)
    ∷ ("</g>" refused 12 at 0)
    ∷ ("<?xml version='1.0'?> <g" refused 12 at 22)
    ∷ ("<g a='' a=''>" refused 12 at 0)
    ∷ []

-- ---- kind 5, the three front bytes, encodings, room

pub marked : List Row
marked =
    -- a bad sequence inside a tag, a value, a comment, a section, a reference, an end tag: the text before is whole
    (bytes "<g>a<n" ++ 0xFF ∷ bytes "/></g>" mends bytes "<g>a</g>" kept 4 added 1)
    ∷ (bytes "<g>a<n k='" ++ 0xFF ∷ bytes "'/></g>" mends bytes "<g>a</g>" kept 4 added 1)
    ∷ (bytes "<g>a<!-- " ++ 0xFF ∷ bytes " --></g>" mends bytes "<g>a</g>" kept 4 added 1)
    ∷ (bytes "<g>a<![CDATA[" ++ 0xFF ∷ bytes "]]></g>" mends bytes "<g>a</g>" kept 4 added 1)
    ∷ (bytes "<g>a&a" ++ 0xFF ∷ bytes "mp;</g>" mends bytes "<g>a</g>" kept 4 added 1)
    ∷ (bytes "<g>a</g" ++ 0xFF ∷ bytes ">" mends bytes "<g>a</g>" kept 4 added 1)
    -- in a text, in the middle of é, at a text's first byte, after one: a text that touches the cut is dropped
    ∷ (bytes "<g>Aa" ++ 0xFF ∷ bytes "r</g>" mends bytes "<g></g>" kept 3 added 1)
    ∷ (bytes "<g>Aa" ++ 0xC3 ∷ bytes "r</g>" mends bytes "<g></g>" kept 3 added 1)
    ∷ (bytes "<g>" ++ 0xC3 ∷ [] mends bytes "<g></g>" kept 3 added 1)
    ∷ (bytes "<g>Aa<" ++ 0xFF ∷ [] mends bytes "<g>Aa</g>" kept 5 added 1)
    -- between items; no character of XML; after the root, where the rest is sound
    ∷ (bytes "<g><n/>" ++ 0xFF ∷ bytes "</g>" mends bytes "<g><n/></g>" kept 7 added 1)
    ∷ (bytes "<g><n/>" ++ 0 ∷ bytes "</g>" mends bytes "<g><n/></g>" kept 7 added 1)
    ∷ (bytes "<g/> " ++ 0xFF ∷ bytes "<h/>" mends bytes "<g/> " kept 5 added 0)
    -- in the prolog, between items and in a comment
    ∷ (bytes "<?p?>" ++ 0xFF ∷ bytes "<g/>" within 60 refused 12 at 5)
    ∷ (bytes "<!-- " ++ 0xFF ∷ bytes " --><g/>" within 60 refused 12 at 0)
    -- "judged again": a fault before the bad sequence, without a root and with one; a text at fault only behind the cut
    ∷ (bytes "a" ++ 0xFF ∷ bytes "<g/>" within 60 refused 12 at 0)
    ∷ (bytes "<g></h>" ++ 0xFF ∷ [] mends bytes "<g></g>" kept 3 added 1)
    ∷ (bytes "<g>a" ++ 0xFF ∷ bytes "]]></g>" mends bytes "<g></g>" kept 3 added 1)
    -- the three front bytes
    ∷ (front ++ bytes "<g>a" mends front ++ bytes "<g></g>" kept 6 added 1)
    ∷ (front ++ bytes "<g/>" mends front ++ bytes "<g/>" kept 7 added 0)
    ∷ (front ++ bytes "<g>" ++ 0xFF ∷ [] mends front ++ bytes "<g></g>" kept 6 added 1)
    ∷ (front within 60 refused 12 at 3)
    ∷ (0xEF ∷ 0xBB ∷ [] within 60 refused 12 at 0)
    ∷ (front ++ bytes " a" within 60 refused 12 at 3)
    -- 10 comes before 12 and before the cut; a declaration that is not whole is no declaration
    ∷ ("<?xml version='1.0' encoding='ISO-8859-1'?><g>" refused 10 at 0)
    ∷ ("<?xml version='1.0' encoding='ISO-8859-1'?>" refused 10 at 0)
    ∷ (bytes "<?xml version='1.0' encoding='ISO-8859-1'?>" ++ 0xFF ∷ [] within 60 refused 10 at 0)
    ∷ (front ++ bytes "<?xml version='1.0' encoding='ISO-8859-1'?>" within 60 refused 10 at 3)
    ∷ ("<?xml version='1.0' encoding='ISO-8859-1'" refused 12 at 0)
    ∷ ("<?xml version='1.0' encoding='utf-8'?><g>" gives "<?xml version='1.0' encoding='utf-8'?><g></g>" kept 41 added 1)
    -- room: just enough, one byte too little, none; 12 and 10 come before 9
    ∷ record { doc = bytes "<g><n>Aar"; room = 14; outcome = wrote (bytes "<g><n></n></g>") 14 6 2 }
    ∷ (bytes "<g><n>Aar" within 13 refused 9 at 14)
    ∷ (bytes "<g/>x" within 3 refused 9 at 4)
    ∷ (bytes "<g>" within 0 refused 9 at 7)
    ∷ (bytes "<n" within 0 refused 12 at 0)
    ∷ (bytes "<?xml version='1.0' encoding='ISO-8859-1'?>" within 0 refused 10 at 0)
    ∷ []

-- ---- sizes

-- n times w
abbrev times : ℕ → List ℕ → List ℕ
times zero w = []
times (suc n) w = w ++ times n w

-- an empty tag with a name of n bytes
abbrev named : ℕ → List ℕ
named n = bytes "<" ++ (times n (bytes "a") ++ bytes "/>")

infix 10 ◌makes◌kept◌added◌
abbrev ◌makes◌kept◌added◌ : List ℕ → List ℕ → ℕ → ℕ → Row
d makes w kept k added n = record { doc = d; room = 450; outcome = wrote w 450 k n }

pub sizes : List Row
sizes =
    -- 64 levels are closed; a tag at level 65 is not kept
    (times 64 (bytes "<a>") makes times 64 (bytes "<a>") ++ times 64 (bytes "</a>") kept 192 added 64)
    ∷ (times 65 (bytes "<a>") makes times 64 (bytes "<a>") ++ times 64 (bytes "</a>") kept 192 added 64)
    ∷ (times 63 (bytes "<a>") ++ bytes "<a/>" makes times 63 (bytes "<a>") ++ (bytes "<a/>" ++ times 63 (bytes "</a>")) kept 193 added 63)
    ∷ (times 64 (bytes "<a>") ++ bytes "<a/>" makes times 64 (bytes "<a>") ++ times 64 (bytes "</a>") kept 192 added 64)
    -- a name of 255 bytes, and one more: inside the root, as the root
    ∷ (bytes "<g>" ++ named 255 makes bytes "<g>" ++ (named 255 ++ bytes "</g>") kept 261 added 1)
    ∷ (bytes "<g>" ++ named 256 makes bytes "<g></g>" kept 3 added 1)
    ∷ (named 256 within 60 refused 12 at 0)
    ∷ []

-- ---- every prefix of a small document

pub whole : List ℕ
whole = bytes "<g>a<n k='1'/>&lt;" ++ 0xC3 ∷ 0xA9 ∷ bytes "</g> "

-- the first n bytes of it, from n on
abbrev prefixes : ℕ → ℕ → List (List ℕ)
prefixes n zero = []
prefixes n (suc k) = take n whole ∷ prefixes (suc n) k

-- n of its first bytes are kept, and the end tag where it is missing
abbrev first : ℕ → Outcome
first n = wrote (take n whole ++ bytes "</g>") 30 n 1

pub stages : List Outcome
stages =
    replicate 3 (denied 12 0 30)
    -- `<g>`, and `a`, which touches the end
    ++ replicate 2 (first 3)
    -- `a` is whole where `<` follows it
    ++ replicate 9 (first 4)
    ++ replicate 4 (first 14)
    -- the reference is whole; half of é is a bad sequence, and é touches the end
    ++ replicate 3 (first 18)
    ++ replicate 3 (first 20)
    ++ (wrote (take 24 whole) 30 24 0 ∷ wrote whole 30 25 0 ∷ [])

abbrev staged : List ℕ → Outcome
staged d = answered (record { doc = d; room = 30; outcome = denied 0 0 0 })

-- ---- all of it

pub examples : map answered (rows ++ (marked ++ sizes)) ≡ map (λ r. r.outcome) (rows ++ (marked ++ sizes))
unfolding rows marked sizes answer_of bytes_after fault_at mended_of readable kept_of kept_from scanned scan_from start_of blank check_of
    space_end item_at kind_of declares ends_at tag_at end_tag_at tag_of end_tag_of piece_named before gather attribute_of small_tag
    instruction_of instruction_end target_of declaration_of version_of encoding_of other_of other_encoding yes_or_no text_of comment_of
    section_of eq_of space_of skip value_of quoted_of many piece_of is_mark reference_of entity_ref_of char_ref_of digits_of ends_number
    digit_of is_decimal is_hexadecimal is_letter is_encoding is_char name_of expect seek starts run character guess number utf8 is_scalar
    is_space is_name is_name_start is_name_more
examples = refl

pub every_prefix : map staged (prefixes 0 26) ≡ stages
unfolding whole stages answer_of bytes_after fault_at mended_of readable kept_of kept_from scanned scan_from start_of blank check_of
    space_end item_at kind_of declares ends_at tag_at end_tag_at tag_of end_tag_of piece_named before gather attribute_of small_tag
    instruction_of instruction_end target_of declaration_of version_of encoding_of other_of other_encoding yes_or_no text_of comment_of
    section_of eq_of space_of skip value_of quoted_of many piece_of is_mark reference_of entity_ref_of char_ref_of digits_of ends_number
    digit_of is_decimal is_hexadecimal is_letter is_encoding is_char name_of expect seek starts run character guess number utf8 is_scalar
    is_space is_name is_name_start is_name_more
every_prefix = refl
