-- Worked examples of the readers of items with names, each table under one statement that antt computes: texts, and beside them what the
-- Recommendation says that is read. In order: how the tables are written; instructions, [16]; declarations, [23], and those that name
-- another encoding; end tags, [42]; tags, [40] and [44]; repeated names and sizes.
use mathlib.Core.Path.{◌≡◌, refl}
use mathlib.Core.Bool.{Bool, true, false}
use mathlib.Core.List.{List, [], ◌∷◌, ◌++◌, map}
use mathlib.Core.Option.{Option, none, some}
use Prim.Native.Nat.{ℕ, zero, suc}
use Prim.Native.String.{String}
use Rattle.xml.specs.Utf8.{utf8, is_scalar}
use Rattle.xml.specs.Notation.{bytes}
use Rattle.xml.specs.Judged.{written}
use Rattle.xml.specs.Productions.{is_char, is_space, is_name_start, is_name_more, is_name, digit_of}
use Rattle.xml.specs.Character.{value_of as number, guess, character, starts, run}
use Rattle.utf8.proofs.Examples.{Row, ◌at◌gives◌, answers, expected}
use Rattle.chars.specs.Name.{name_of}
use Rattle.readers.specs.Read.{and_then, expect, seek, skip, space_of, many}
use Rattle.readers.specs.Plain.{is_mark}
use Rattle.readers.specs.Value.{is_decimal, is_hexadecimal, ends_number, digits_of, char_ref_of, entity_ref_of, reference_of}
use Rattle.readers.specs.Value.{piece_of, quoted_of, value_of}
use Rattle.readers.specs.Named.{before, target_of, instruction_end, instruction_of, eq_of, version_of, is_letter, is_encoding, encoding_of}
use Rattle.readers.specs.Named.{yes_or_no, declaration_of, other_of, other_encoding, Piece, piece_named, attribute_of, gather, Tag, tag_of}
use Rattle.readers.specs.Named.{end_tag_of, small_tag, repeated}

-- ---- how the tables are written

abbrev read : {A : Type 0} → (List ℕ → A) → List (Row A) → List A
read f = answers (λ s k. f s)

-- what is read leaves this, or is this
infix 10 ◌leaves◌
abbrev ◌leaves◌ : String → String → Row (Option (List ℕ))
s leaves t = written s at 0 gives some (written t)

infix 10 ◌is◌
abbrev ◌is◌ : {A : Type 0} → String → A → Row (Option A)
s is v = written s at 0 gives some v

-- nothing is read at the front of these
abbrev fails : {A : Type 0} → List String → List (Row (Option A))
fails [] = []
fails (s ∷ ss) = (written s at 0 gives none) ∷ fails ss

-- ---- instructions

pub instructions : List (Row (Option (List ℕ)))
instructions =
    ("<?a?>" leaves "")
    ∷ ("<?a?>?>" leaves "?>")
    ∷ ("<?a b?>c" leaves "c")
    ∷ ("<?a\n?b?>" leaves "")
    ∷ ("<?a ??>" leaves "")
    ∷ ("<?a >?><b>" leaves "<b>")
    ∷ ("<?a <b> & é ?>" leaves "")
    ∷ ("<?xml-s?>" leaves "")
    ∷ ("<?xmls x?>" leaves "")
    ∷ ("<?axml?>" leaves "")
    ∷ ("<?é:1?>" leaves "")
    ∷ fails
    ("" ∷ "<?xml?>" ∷ "<?xml version='1.0'?>" ∷ "<?XML a?>" ∷ "<?xMl ?>" ∷ "<?a?b?>" ∷ "<? a?>" ∷ "<??>" ∷ "<?1?>" ∷ "<?-a?>" ∷ "<?a>"
    ∷ "<?a" ∷ "<?a ?" ∷ "<?a b>" ∷ "<a?>" ∷ " <?a?>" ∷ [])

pub instructions_computed : read instruction_of instructions ≡ expected instructions
unfolding instructions written utf8 is_scalar instruction_of instruction_end target_of before name_of expect seek starts run character guess
    number is_space is_name is_name_start is_name_more
instructions_computed = refl

-- ---- declarations

pub declarations : List (Row (Option (List ℕ)))
declarations =
    ("<?xml version=\"1.0\"?>" leaves "")
    ∷ ("<?xml version='1.0'?><a/>" leaves "<a/>")
    ∷ ("<?xml version='1.10'?>" leaves "")
    ∷ ("<?xml version = '1.0' ?>" leaves "")
    ∷ ("<?xml version='1.0' encoding='UTF-8'?>" leaves "")
    ∷ ("<?xml version='1.0' encoding=\"utf_8.x\"?>" leaves "")
    ∷ ("<?xml version='1.0' standalone = 'yes'?>" leaves "")
    ∷ ("<?xml version='1.0' standalone=\"no\" ?>" leaves "")
    ∷ ("<?xml\tversion='1.0'\r\nencoding\n=\n'a'\nstandalone='no'\n?>\n" leaves "\n")
    ∷ fails
    ("" ∷ "<?xml?>" ∷ "<?xml ?>" ∷ "<?XML version='1.0'?>" ∷ "<?xmlversion='1.0'?>" ∷ " <?xml version='1.0'?>" ∷ "<?xml version='2.0'?>"
    ∷ "<?xml version='1.'?>" ∷ "<?xml version='1.0a'?>" ∷ "<?xml version=' 1.0'?>" ∷ "<?xml version=1.0?>" ∷ "<?xml version='1.0\"?>"
    ∷ "<?xml version '1.0'?>" ∷ "<?xml encoding='UTF-8'?>" ∷ "<?xml encoding='UTF-8' version='1.0'?>"
    ∷ "<?xml version='1.0'encoding='UTF-8'?>" ∷ "<?xml version='1.0' encoding='-UTF'?>" ∷ "<?xml version='1.0' encoding=''?>"
    ∷ "<?xml version='1.0' encoding='UTF 8'?>" ∷ "<?xml version='1.0' encoding='a' encoding='a'?>"
    ∷ "<?xml version='1.0' standalone='yes' encoding='a'?>" ∷ "<?xml version='1.0' standalone='YES'?>"
    ∷ "<?xml version='1.0' standalone='yes'standalone='yes'?>" ∷ "<?xml version='1.0' a='b'?>" ∷ "<?xml version='1.0' ? >"
    ∷ "<?xml version='1.0'>" ∷ "<?xml version='1.0'" ∷ [])

pub declarations_computed : read declaration_of declarations ≡ expected declarations
unfolding declarations written utf8 is_scalar declaration_of version_of encoding_of yes_or_no eq_of space_of skip expect starts run
    character guess number is_space is_decimal is_letter is_encoding
declarations_computed = refl

-- ---- another encoding

abbrev pub named : List String → List String → List (Row Bool)
named [] [] = []
named [] (s ∷ ss) = (written s at 0 gives false) ∷ named [] ss
named (s ∷ ss) us = (written s at 0 gives true) ∷ (written s ++ 0xE9 ∷ 0xFF ∷ [] at 0 gives true) ∷ named ss us

-- those that name one, each also with bytes behind it that are not UTF-8; and those that do not, by their encoding or by their shape
pub encodings : List (Row Bool)
encodings =
    (bytes "<?xml version='1.0' encoding='a" ++ 0xE9 ∷ bytes "'?>" at 0 gives false)
    ∷ named
    ("<?xml version='1.0' encoding='ISO-8859-1'?>" ∷ "<?xml version=\"1.0\" encoding=\"ISO-8859-1\"?>"
    ∷ "<?xml version='1.1' encoding = 'UTF-16' standalone='yes' ?><g/>" ∷ "<?xml version='1.0' encoding='UTF8'?>"
    ∷ "<?xml version='1.0' encoding='UTF'?>" ∷ "<?xml version='1.0' encoding='UTF-8x'?>" ∷ "<?xml version='1.0' encoding='UTF-16'?><"
    ∷ "<?xml version='1.0' encoding='US-ASCII'?>" ∷ "<?xml version='1.0' encoding='u'?>" ∷ [])
    ("" ∷ "<g/>" ∷ "<?xml version='1.0'?>" ∷ "<?xml version='1.0' standalone='no'?>" ∷ "<?xml version='1.0' encoding='UTF-8'?>"
    ∷ "<?xml version=\"1.0\" encoding=\"utf-8\"?>" ∷ "<?xml version='1.0' encoding='uTf-8' standalone='yes'?>"
    ∷ "<?xml encoding='ISO-8859-1'?>" ∷ "<?xml version='1.0' encoding='ISO-8859-1'" ∷ "<?xml version='1.0' encoding='ISO-8859-1\"?>"
    ∷ "<?xml version='1.0' encoding='8859-1'?>" ∷ "<?xml version='1.0' encoding=''?>"
    ∷ "<?xml version='1.0' standalone='yes' encoding='ISO-8859-1'?>" ∷ " <?xml version='1.0' encoding='ISO-8859-1'?>" ∷ [])

pub encodings_computed : read other_encoding encodings ≡ expected encodings
unfolding encodings written utf8 is_scalar other_encoding other_of before version_of encoding_of yes_or_no eq_of skip space_of expect
    is_decimal is_letter is_encoding is_space starts run character guess number
encodings_computed = refl

-- ---- end tags

abbrev piece : String → String → Piece
piece n t = record { name = written n; rest = written t }

pub end_tags : List (Row (Option Piece))
end_tags =
    ("</a>" is piece "a" "")
    ∷ ("</a >b" is piece "a" "b")
    ∷ ("</a\n\t></a>" is piece "a" "</a>")
    ∷ ("</a:b.c-1>" is piece "a:b.c-1" "")
    ∷ ("</é>" is piece "é" "")
    ∷ fails
    ("" ∷ "</a b>" ∷ "</ a>" ∷ "</a b='1'>" ∷ "</a" ∷ "< /a>" ∷ "</a/>" ∷ "</>" ∷ "</ >" ∷ "<a>" ∷ "</1>" ∷ "</a,>" ∷ [])

pub end_tags_computed : read end_tag_of end_tags ≡ expected end_tags
unfolding end_tags written utf8 is_scalar end_tag_of piece_named before name_of skip expect starts run character guess number is_space
    is_name is_name_start is_name_more
end_tags_computed = refl

-- ---- tags

-- a tag's name, its attributes' names, its bytes before the end, and what follows
abbrev start : String → List String → String → String → Tag
start n ns h t = record { name = written n; attributes = map written ns; head = written h; empty = false; rest = written t }

abbrev alone : String → List String → String → String → Tag
alone n ns h t = record { name = written n; attributes = map written ns; head = written h; empty = true; rest = written t }

pub tags : List (Row (Option Tag))
tags =
    ("<a>" is start "a" [] "<a" "")
    ∷ ("<a/>" is alone "a" [] "<a" "")
    ∷ ("<a >b" is start "a" [] "<a " "b")
    ∷ ("<a\n/>/>" is alone "a" [] "<a\n" "/>")
    ∷ ("<a b=\"\" c='x' >" is start "a" ("b" ∷ "c" ∷ []) "<a b=\"\" c='x' " "")
    ∷ ("<a b = '1'\nb:c=\"2\"/>" is alone "a" ("b" ∷ "b:c" ∷ []) "<a b = '1'\nb:c=\"2\"" "")
    ∷ ("<a b='\"/>'>" is start "a" ("b" ∷ []) "<a b='\"/>'" "")
    ∷ ("<a b=\"&lt;&#60;&#x3C;'\">" is start "a" ("b" ∷ []) "<a b=\"&lt;&#60;&#x3C;'\"" "")
    ∷ ("<é ü='ß'/>" is alone "é" ("ü" ∷ []) "<é ü='ß'" "")
    ∷ ("<a b='' c='' b=''>" is start "a" ("b" ∷ "c" ∷ "b" ∷ []) "<a b='' c='' b=''" "")
    ∷ fails
    ("" ∷ "< a>" ∷ "<>" ∷ "<a" ∷ "<a " ∷ "<1>" ∷ "</a>" ∷ "<a,b>" ∷ "<a<b>" ∷ "<a / >" ∷ "<a/ >" ∷ "<a//>" ∷ "<a b>" ∷ "<a b=>" ∷ "<a b=1>"
    ∷ "<a b='<'>" ∷ "<a b='&'>" ∷ "<a b='&foo;'>" ∷ "<a b='&#0;'>" ∷ "<a b='1\">" ∷ "<a b='1'c='2'>" ∷ "<a b='1' c>" ∷ "<a b='1' 'c'>"
    ∷ "<a='1'>" ∷ "<a b='1'" ∷ "<a b='1'/" ∷ "<!a>" ∷ "<?a>" ∷ [])

pub tags_computed : read tag_of tags ≡ expected tags
unfolding tags written utf8 is_scalar tag_of piece_named before name_of gather attribute_of space_of skip eq_of value_of quoted_of many
    piece_of is_mark reference_of entity_ref_of char_ref_of digits_of ends_number digit_of is_decimal is_hexadecimal is_char expect starts
    run character guess number is_space is_name is_name_start is_name_more
tags_computed = refl

-- ---- repeated names, and sizes

-- a test of the tag that is read
abbrev of_tag : (Tag → Bool) → List ℕ → Option Bool
of_tag f s = and_then (tag_of s) (λ v. some (f v))

-- n times w
abbrev times : ℕ → List ℕ → List ℕ
times zero w = []
times (suc n) w = w ++ times n w

-- a tag with n attributes, and one with an attribute's name of n bytes
abbrev wide : ℕ → List ℕ
wide n = written "<a" ++ times n (written " b=''") ++ written ">"

abbrev long : ℕ → List ℕ
long n = written "<a " ++ times n (written "b") ++ written "=''/>"

infix 10 ◌gives◌
abbrev ◌gives◌ : List ℕ → Bool → Row (Option Bool)
s gives b = s at 0 gives some b

pub repeats : List (Row (Option Bool))
repeats =
    (written "<a>" gives false)
    ∷ (written "<a a=''>" gives false)
    ∷ (written "<a b='' c='' B='' bb=''/>" gives false)
    ∷ (written "<a b='1' b='2'>" gives true)
    ∷ (written "<a b='' c='' d='' c=''>" gives true)
    ∷ []

pub repeats_computed : read (of_tag (λ v. repeated v.attributes)) repeats ≡ expected repeats
unfolding repeats written utf8 is_scalar tag_of piece_named before name_of gather attribute_of space_of skip eq_of value_of quoted_of many
    piece_of is_mark reference_of entity_ref_of char_ref_of expect starts run character guess number is_space is_name is_name_start
    is_name_more
repeats_computed = refl

pub sizes : List (Row (Option Bool))
sizes = (wide 32 gives true) ∷ (wide 33 gives false) ∷ (long 255 gives true) ∷ (long 256 gives false) ∷ []

pub sizes_computed : read (of_tag small_tag) sizes ≡ expected sizes
unfolding sizes small_tag written utf8 is_scalar tag_of piece_named before name_of gather attribute_of space_of skip eq_of value_of
    quoted_of many piece_of is_mark reference_of entity_ref_of char_ref_of expect starts run character guess number is_space is_name
    is_name_start is_name_more
sizes_computed = refl
