-- The productions that a document is made of are allowed: what they derive is characters of [2] alone, by `allowed_chars`. In order: the
-- classes of characters that stand in them; the productions.
use mathlib.Core.Path.{◌≡◌, refl}
use mathlib.Core.Bool.{true}
use mathlib.Core.List.{List, [], ◌∷◌}
use mathlib.Core.Logic.{◌⊎◌, inl, inr}
use Prim.Native.String.{String}
use Rattle.xml.specs.Range.{Range, ◌–◌, ◌to◌, only, sign, within}
use Rattle.xml.specs.Notation.{◌∣◌, text}
use Rattle.xml.specs.Productions.{is_char, is_space, is_name_start, is_name_more, is_name, except, S, Name, Eq, AttValue, Reference}
use Rattle.xml.specs.Productions.{CharData}
use Rattle.xml.specs.Productions.{Comment, PI, CDSect, VersionNum, VersionInfo, SDDecl}
use Rattle.xml.specs.Encoding.{EncodingBy, Utf8Name, Utf8Decl}
use Rattle.xml.proofs.Bools.{and_left, or_either}
use Rattle.demands.proofs.Allowed.{all_covered, within_covered, OfChars, Allowed}

-- ---- classes

-- the ranges of [2], and below those of [3] [4] [4a]: they are those of the productions, or these laws would not check
abbrev char_ranges : List Range
char_ranges = only 0x9 ∷ only 0xA ∷ only 0xD ∷ 0x20 – 0xD7FF ∷ 0xE000 – 0xFFFD ∷ 0x10000 – 0x10FFFF ∷ []

within_chars : (rs : List Range) → all_covered char_ranges rs ≡ true → OfChars (within rs)
unfolding is_char
within_chars rs e c h = within_covered char_ranges rs e c h

space_chars : OfChars is_space
unfolding is_space
space_chars = within_chars (only 0x20 ∷ only 0x9 ∷ only 0xD ∷ only 0xA ∷ []) refl

start_chars : OfChars is_name_start
unfolding is_name_start
start_chars =
    within_chars
    (sign ":" ∷ "A" to "Z" ∷ sign "_" ∷ "a" to "z" ∷ 0xC0 – 0xD6 ∷ 0xD8 – 0xF6 ∷ 0xF8 – 0x2FF ∷ 0x370 – 0x37D ∷ 0x37F – 0x1FFF
    ∷ 0x200C – 0x200D ∷ 0x2070 – 0x218F ∷ 0x2C00 – 0x2FEF ∷ 0x3001 – 0xD7FF ∷ 0xF900 – 0xFDCF ∷ 0xFDF0 – 0xFFFD ∷ 0x10000 – 0xEFFFF ∷ [])
    refl

more_chars : OfChars is_name_more
unfolding is_name_more
more_chars = within_chars (sign "-" ∷ sign "." ∷ "0" to "9" ∷ only 0xB7 ∷ 0x300 – 0x36F ∷ 0x203F – 0x2040 ∷ []) refl

name_chars : OfChars is_name
unfolding is_name
name_chars c h = go (or_either (is_name_start c) _ h)
  where
    go : (is_name_start c ≡ true) ⊎ (is_name_more c ≡ true) → is_char c ≡ true
    go (inl x) = start_chars c x
    go (inr x) = more_chars c x

except_chars : (xs : String) → OfChars (except xs)
unfolding except
except_chars xs c h = and_left (is_char c) _ h

digit_chars : OfChars (within ("0" to "9" ∷ []))
digit_chars = within_chars ("0" to "9" ∷ []) refl

hex_chars : OfChars (within ("0" to "9" ∷ "a" to "f" ∷ "A" to "F" ∷ []))
hex_chars = within_chars ("0" to "9" ∷ "a" to "f" ∷ "A" to "F" ∷ []) refl

any_chars : OfChars is_char
any_chars c h = h

-- ---- productions

pub space_allowed : Allowed S
space_allowed = (space_chars, space_chars)

pub name_allowed : Allowed Name
name_allowed = (start_chars, name_chars)

pub eq_allowed : Allowed Eq
eq_allowed = ((refl, space_allowed), (refl, (refl, space_allowed)))

pub reference_allowed : Allowed Reference
reference_allowed =
    ((refl, (name_allowed, refl)), ((refl, ((digit_chars, digit_chars), refl)), (refl, ((hex_chars, hex_chars), refl))))

pub value_allowed : Allowed AttValue
value_allowed =
    ((refl, ((except_chars "<&\"", reference_allowed), refl)), (refl, ((except_chars "<&'", reference_allowed), refl)))

pub data_allowed : Allowed CharData
data_allowed = except_chars "<&"

pub comment_allowed : Allowed Comment
comment_allowed = (refl, ((any_chars, (refl, any_chars)), refl))

pub instruction_allowed : Allowed PI
instruction_allowed = (refl, (name_allowed, ((refl, (space_allowed, any_chars)), refl)))

pub section_allowed : Allowed CDSect
section_allowed = (refl, (any_chars, refl))

version_allowed : Allowed VersionInfo
version_allowed =
    let number : Allowed VersionNum = (refl, (digit_chars, digit_chars)) in
    (space_allowed, (refl, (eq_allowed, ((refl, (number, refl)), (refl, (number, refl))))))

encoding_allowed : Allowed (EncodingBy Utf8Name)
encoding_allowed =
    let name : Allowed Utf8Name = ((refl, refl), ((refl, refl), ((refl, refl), refl))) in
    (space_allowed, (refl, (eq_allowed, ((refl, (name, refl)), (refl, (name, refl))))))

standalone_allowed : Allowed SDDecl
standalone_allowed =
    let answer : Allowed (text "yes" ∣ text "no") = (refl, refl) in
    (space_allowed, (refl, (eq_allowed, ((refl, (answer, refl)), (refl, (answer, refl))))))

pub declaration_allowed : Allowed Utf8Decl
declaration_allowed =
    (refl, (version_allowed, ((refl, encoding_allowed), ((refl, standalone_allowed), ((refl, space_allowed), refl)))))
