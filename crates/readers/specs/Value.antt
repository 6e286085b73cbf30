-- References, [66] to [68], each with the character that it says, and attribute values, [10].
-- A value's plain characters are passed byte by byte.
use Rattle.std.specs.Prelude.{Bool, true, false, cond, ◌&&◌, List, [], ◌∷◌, ℕ, ◌+◌, ◌*◌, eqb}
use Rattle.std.proofs.Math.Option.{Option, none, some}
use Rattle.xml.specs.Range.{◌to◌, within}
use Rattle.xml.specs.Notation.{bytes}
use Rattle.xml.specs.Productions.{is_char, digit_of}
use Rattle.readers.specs.Read.{and_then, or_else, expect, many}
use Rattle.readers.specs.Plain.{is_mark}

-- ---- references

unfoldable pub is_decimal : ℕ → Bool
is_decimal = within ("0" to "9" ∷ [])

unfoldable pub is_hexadecimal : ℕ → Bool
is_hexadecimal = within ("0" to "9" ∷ "a" to "f" ∷ "A" to "F" ∷ [])

-- `;` ends digits, of which there is one at least (any), and the number is that of a Char
unfoldable pub ends_number : ℕ → Bool → ℕ → Bool
ends_number b any n = eqb b 0x3B && (any && is_char n)

-- the code point that a reference says, and what follows the reference
pub record Said : Type 0 where
  pub code : ℕ
  pub rest : List ℕ

abbrev pub saying : ℕ → List ℕ → Option Said
saying c t = some (record { code = c; rest = t })

-- digits of a class and base, then `;`; n is the number so far
unfoldable pub digits_of : (ℕ → Bool) → ℕ → ℕ → Bool → List ℕ → Option Said
digits_of p base n any [] = none
digits_of p base n any (b ∷ s) =
    let later = digits_of p base (n * base + digit_of b) true s in cond (p b) later (cond (ends_number b any n) (saying n s) none)

unfoldable pub char_ref_of : List ℕ → Option Said
char_ref_of s =
    or_else (and_then (expect (bytes "&#x") s) (digits_of is_hexadecimal 16 0 false))
    (and_then (expect (bytes "&#") s) (digits_of is_decimal 10 0 false))

-- the text w, which says c
abbrev pub entity_of : List ℕ → ℕ → List ℕ → Option Said
entity_of w c s = and_then (expect w s) (saying c)

unfoldable pub entity_ref_of : List ℕ → Option Said
entity_ref_of s =
    or_else (entity_of (bytes "&amp;") 0x26 s)
    (or_else (entity_of (bytes "&lt;") 0x3C s)
    (or_else (entity_of (bytes "&gt;") 0x3E s)
    (or_else (entity_of (bytes "&apos;") 0x27 s) (entity_of (bytes "&quot;") 0x22 s))))

unfoldable pub reference_of : List ℕ → Option Said
reference_of s = or_else (entity_ref_of s) (char_ref_of s)

-- what follows it, alone
abbrev pub rest_of : Option Said → Option (List ℕ)
rest_of none = none
rest_of (some r) = some r.rest

abbrev pub reference_end : List ℕ → Option (List ℕ)
reference_end s = rest_of (reference_of s)

-- ---- values

-- one byte that stands for itself between quotes q, or a reference
abbrev pub plain_byte : ℕ → List ℕ → Option (List ℕ)
plain_byte q [] = none
plain_byte q (b ∷ s) = cond (is_mark q b) none (some s)

unfoldable pub piece_of : ℕ → List ℕ → Option (List ℕ)
piece_of q s = or_else (plain_byte q s) (reference_end s)

unfoldable pub quoted_of : ℕ → List ℕ → Option (List ℕ)
quoted_of q s = and_then (expect (q ∷ []) s) (λ t. expect (q ∷ []) (many (piece_of q) 0 t))

unfoldable pub value_of : List ℕ → Option (List ℕ)
value_of s = or_else (quoted_of 0x22 s) (quoted_of 0x27 s)
