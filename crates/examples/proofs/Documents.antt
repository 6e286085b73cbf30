-- Worked examples of `judge_of`, a table under one statement that antt computes: documents, and beside them the answers by document 01. In
-- order: sound ones; what stands outside the root; tags that do not match; document types; depth; characters; examples i and j; encodings
-- that are named.
use mathlib.Core.Path.{◌≡◌, refl}
use mathlib.Core.List.{List, [], ◌∷◌, ◌++◌}
use Prim.Native.Nat.{ℕ, zero, suc}
use Prim.Native.String.{String}
use Rattle.std.specs.Prelude.{Result, Ok, Err, ⊤}
use Rattle.xml.specs.Utf8.{utf8, is_scalar}
use Rattle.xml.specs.Notation.{bytes}
use Rattle.xml.specs.Productions.{is_char, is_space, is_name_start, is_name_more, is_name, digit_of}
use Rattle.xml.specs.Character.{value_of as number, guess, character, starts, run}
use Rattle.utf8.specs.Place.{ends_at}
use Rattle.utf8.proofs.Examples.{Row, ◌at◌gives◌, answers, expected}
use Rattle.chars.specs.Name.{name_of}
use Rattle.chars.specs.Space.{space_end}
use Rattle.chars.specs.Check.{check_of}
use Rattle.readers.specs.Read.{expect, seek, skip, space_of, many}
use Rattle.readers.specs.Plain.{is_mark, text_of, comment_of, section_of}
use Rattle.readers.specs.Value.{is_decimal, is_hexadecimal, ends_number, digits_of, char_ref_of, entity_ref_of, reference_of}
use Rattle.readers.specs.Value.{piece_of, quoted_of, value_of}
use Rattle.readers.specs.Named.{before, target_of, instruction_end, instruction_of, eq_of, version_of, is_letter, is_encoding, encoding_of}
use Rattle.readers.specs.Named.{yes_or_no, declaration_of, other_of, other_encoding, piece_named, attribute_of, gather, tag_of, end_tag_of}
use Rattle.readers.specs.Named.{small_tag}
use Rattle.tags.specs.Tag.{tag_at, end_tag_at}
use Rattle.items.specs.Item.{declares, kind_of, item_at}
use Rattle.document.specs.Place.{blank}
use Rattle.document.specs.Judge.{front, start_of, scan_from, scanned, judge_of}
use Rattle.document.specs.declared.Why.TheVariants.{Doctype, Malformed, TooLarge}
use Rattle.document.specs.declared.DocumentError.{DocumentError}
use Rattle.document.specs.declared.DocumentError.TheVariants.{OtherEncoding, NotChar, At}

infix 10 ◌gives◌
abbrev ◌gives◌ : List ℕ → Result ⊤ DocumentError → Row (Result ⊤ DocumentError)
d gives r = d at 0 gives r

infix 10 ◌is◌
abbrev ◌is◌ : String → Result ⊤ DocumentError → Row (Result ⊤ DocumentError)
s is r = bytes s gives r

-- n times w; n elements, one in the other
abbrev times : ℕ → List ℕ → List ℕ
times zero w = []
times (suc n) w = w ++ times n w

abbrev nested : ℕ → List ℕ → List ℕ
nested n w = times n (bytes "<a>") ++ w ++ times n (bytes "</a>")

pub documents : List (Row (Result ⊤ DocumentError))
documents =
    ("<g/>" is (Ok tt))
    ∷ ("<g></g >" is (Ok tt))
    ∷ ("<g>a&amp;b<![CDATA[<]]><!----><?p?><v k='1'/></g>" is (Ok tt))
    ∷ ("<?xml version='1.0'?> <!-- a --> <g/> <?p?> \n" is (Ok tt))
    ∷ (front ++ bytes "<g/>" gives (Ok tt))
    ∷ (front ++ bytes "<?xml version='1.0'?><g/>" gives (Ok tt))
    -- outside the root
    ∷ ("" is Err (At Malformed 0))
    ∷ (front gives Err (At Malformed 3))
    ∷ (" \n" is Err (At Malformed 2))
    ∷ ("a<g/>" is Err (At Malformed 0))
    ∷ ("<g/> a" is Err (At Malformed 4))
    ∷ ("&lt;<g/>" is Err (At Malformed 0))
    ∷ ("<g/><![CDATA[]]>" is Err (At Malformed 4))
    ∷ ("<g/><h/>" is Err (At Malformed 4))
    ∷ (" <?xml version='1.0'?><g/>" is Err (At Malformed 1))
    ∷ (bytes "<g/>" ++ front gives Err (At Malformed 4))
    -- tags
    ∷ ("<g>" is Err (At Malformed 3))
    ∷ ("</g>" is Err (At Malformed 0))
    ∷ ("<g></h>" is Err (At Malformed 3))
    ∷ ("<g><v></g></v>" is Err (At Malformed 6))
    ∷ ("<g/></g>" is Err (At Malformed 4))
    ∷ ("<g a='1' b='2' a='3'/>" is Err (At Malformed 0))
    -- document types
    ∷ ("<!DOCTYPE g><g/>" is Err (At Doctype 0))
    ∷ ("<g><!DOCTYPE g></g>" is Err (At Doctype 3))
    ∷ ("<g><v></g><!DOCTYPE g>" is Err (At Malformed 6))
    -- depth 64, and one more
    ∷ (nested 64 [] gives (Ok tt))
    ∷ (nested 63 (bytes "<a/>") gives (Ok tt))
    ∷ (nested 65 [] gives Err (At TooLarge 192))
    ∷ (nested 64 (bytes "<a/>") gives Err (At TooLarge 192))
    -- characters come first
    ∷ (bytes "<g>" ++ 0xFF ∷ [] gives Err (NotChar 3))
    ∷ (bytes "</g>" ++ 0x0 ∷ [] gives Err (NotChar 4))
    -- examples i and j
    ∷ ("<g><v></g>" is Err (At Malformed 6))
    -- "a declaration without an encoding, or one that says UTF-8 with ASCII letter case ignored"
    ∷ ("<?xml version='1.0' standalone='yes'?><g/>" is (Ok tt))
    ∷ ("<?xml version='1.0' encoding='UTF-8'?><g/>" is (Ok tt))
    ∷ ("<?xml version=\"1.0\" encoding=\"utf-8\" standalone='no' ?><g/>" is (Ok tt))
    ∷ ("<?xml version='1.1' encoding='Utf-8'?><g/>" is (Ok tt))
    ∷ (front ++ bytes "<?xml version='1.0' encoding='uTF-8'?><g/>" gives (Ok tt))
    -- "names another encoding", behind either quote, with `standalone` and behind the three bytes, whose offset counts
    ∷ ("<?xml version='1.0' encoding='ISO-8859-1'?><g/>" is Err (OtherEncoding 0))
    ∷ ("<?xml version=\"1.0\" encoding=\"ISO-8859-1\" standalone='yes'?><g/>" is Err (OtherEncoding 0))
    ∷ (front ++ bytes "<?xml version='1.0' encoding='ISO-8859-1'?><g/>" gives Err (OtherEncoding 3))
    ∷ ("<?xml version='1.0' encoding='UTF8'?><g/>" is Err (OtherEncoding 0))
    ∷ ("<?xml version='1.0' encoding='UTF'?><g/>" is Err (OtherEncoding 0))
    ∷ ("<?xml version='1.0' encoding='UTF-8x'?><g/>" is Err (OtherEncoding 0))
    -- 10 whatever stands behind it: bytes that read as UTF-8, bytes that do not, a document type, nothing
    ∷ (bytes "<?xml version='1.0' encoding='ISO-8859-1'?><g>" ++ 0xC3 ∷ 0xA9 ∷ bytes "</g>" gives Err (OtherEncoding 0))
    ∷ (bytes "<?xml version='1.0' encoding='ISO-8859-1'?><g>" ++ 0xE9 ∷ bytes "</g>" gives Err (OtherEncoding 0))
    ∷ ("<?xml version='1.0' encoding='ISO-8859-1'?><!DOCTYPE g>" is Err (OtherEncoding 0))
    ∷ ("<?xml version='1.0' encoding='ISO-8859-1'?>" is Err (OtherEncoding 0))
    -- a bad byte inside breaks the shape; so does less than [23]; a declaration that is not first is none
    ∷ (bytes "<?xml version='1.0' encoding='ISO-8859" ++ 0xE9 ∷ bytes "'?><g/>" gives Err (NotChar 38))
    ∷ ("<?xml encoding='ISO-8859-1'?><g/>" is Err (At Malformed 0))
    ∷ ("<?xml version='1.0' encoding='ISO-8859-1'>" is Err (At Malformed 0))
    ∷ ("<?xml version='1.0' encoding=''?><g/>" is Err (At Malformed 0))
    ∷ ("<?xml version='1.0' standalone='yes' encoding='ISO-8859-1'?><g/>" is Err (At Malformed 0))
    ∷ (" <?xml version='1.0' encoding='ISO-8859-1'?><g/>" is Err (At Malformed 1))
    ∷ ("<g/><?xml version='1.0' encoding='ISO-8859-1'?>" is Err (At Malformed 4))
    ∷ []

pub documents_computed : answers (λ d k. judge_of d) documents ≡ expected documents
unfolding documents judge_of scanned scan_from start_of blank check_of space_end item_at kind_of declares ends_at tag_at end_tag_at tag_of
    end_tag_of piece_named before gather attribute_of small_tag instruction_of instruction_end target_of declaration_of version_of
    encoding_of other_of other_encoding yes_or_no text_of comment_of section_of eq_of space_of skip value_of quoted_of many piece_of is_mark
    reference_of entity_ref_of char_ref_of digits_of ends_number digit_of is_decimal is_hexadecimal is_letter is_encoding is_char name_of
    expect seek starts run character guess number utf8 is_scalar is_space is_name is_name_start is_name_more
documents_computed = refl
