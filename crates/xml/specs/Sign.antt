-- What a reference says, and the characters of text, of a CDATA section and of an attribute value, each with its origin: it stands for
-- itself, or a reference says it. In order: references; where characters stand, and which stand for themselves there; the next character,
-- and those between two places; a value and a section with their characters. text is in the crate readers.
use Rattle.std.specs.Prelude.{◌≡◌, Bool, true, false, List, [], ◌∷◌, ◌++◌, ℕ}
use Rattle.xml.specs.Utf8.{utf8, is_scalar}
use Rattle.xml.specs.Notation.{Reads, bytes, text}
use Rattle.xml.specs.Productions.{is_char, except, Name, Decimal, Hexadecimal, number, CDStart, CDEnd}

-- ---- references

-- section 4.6, Predefined Entities: the five names, each with its character
pub data Predefined : List ℕ → ℕ → Type 0 where
  amp : Predefined (bytes "amp") 0x26
  lt : Predefined (bytes "lt") 0x3C
  gt : Predefined (bytes "gt") 0x3E
  apos : Predefined (bytes "apos") 0x27
  quot : Predefined (bytes "quot") 0x22

-- `Refers c s t`: at the front of s stands a reference that says the character c, and t is what follows it
pub data Refers : ℕ → List ℕ → List ℕ → Type 0 where
  -- [68] EntityRef ::= '&' Name ';'
  entity : {c : ℕ} {w s a b t : List ℕ} → Reads (text "&") s a → Reads Name a b → a ≡ w ++ b → Predefined w c → Reads (text ";") b t
      → Refers c s t
  -- [66] CharRef ::= '&#' [0-9]+ ';' | '&#x' [0-9a-fA-F]+ ';': the number that the digits make, which is that of a Char
  decimal : {c : ℕ} (w : List ℕ) {s a b t : List ℕ} → Reads (text "&#") s a → Reads Decimal a b → a ≡ w ++ b → c ≡ number 10 0 w
      → Reads (text ";") b t → Refers c s t
  hexadecimal : {c : ℕ} (w : List ℕ) {s a b t : List ℕ} → Reads (text "&#x") s a → Reads Hexadecimal a b → a ≡ w ++ b → c ≡ number 16 0 w
      → Reads (text ";") b t → Refers c s t

-- ---- where characters stand

-- a character by its code point, with its origin
pub data Sign : Type 0 where
  literal referred : ℕ → Sign

-- text between tags and the like; a CDATA section; a value in double quotes or in single ones
pub data Where : Type 0 where
  in_text in_section in_double in_single : Where

-- those that stand for themselves: [14] has [^<&], [20] Char, [10] [^<&"] and [^<&']
abbrev pub plain_in : Where → ℕ → Bool
plain_in in_text = except "<&"
plain_in in_section = is_char
plain_in in_double = except "<&\""
plain_in in_single = except "<&'"

-- references are read but in a section: there `&` stands for itself
abbrev pub refers_in : Where → Bool
refers_in in_text = true
refers_in in_section = false
refers_in in_double = true
refers_in in_single = true

-- the next begins no `]]>`, which [14] and [20] do not have
abbrev pub Free : Where → List ℕ → Type 0
Free in_text s = (u : List ℕ) → Reads (text "]]>") s u → ⊥
Free in_section s = (u : List ℕ) → Reads (text "]]>") s u → ⊥
Free in_double s = Unit {0}
Free in_single s = Unit {0}

-- ---- the next character, and those between two places

pub data Comes (w : Where) : Sign → List ℕ → List ℕ → Type 0 where
  itself : {c : ℕ} {s t : List ℕ} → is_scalar c ≡ true → plain_in w c ≡ true → Free w s → s ≡ utf8 c ++ t → Comes w (literal c) s t
  said : {c : ℕ} {s t : List ℕ} → refers_in w ≡ true → Refers c s t → Comes w (referred c) s t

pub data Signs (w : Where) : List Sign → List ℕ → List ℕ → Type 0 where
  over : {s : List ℕ} → Signs w [] s s
  next : {x : Sign} {xs : List Sign} {s m t : List ℕ} → Comes w x s m → Signs w xs m t → Signs w (x ∷ xs) s t

-- ---- values and sections with their characters

-- [10] AttValue ::= '"' ([^<&"] | Reference)* '"' | "'" ([^<&'] | Reference)* "'"
pub data Valued : List Sign → List ℕ → List ℕ → Type 0 where
  double : {xs : List Sign} {s a b t : List ℕ} → Reads (text "\"") s a → Signs in_double xs a b → Reads (text "\"") b t → Valued xs s t
  single : {xs : List Sign} {s a b t : List ℕ} → Reads (text "'") s a → Signs in_single xs a b → Reads (text "'") b t → Valued xs s t

-- [18] CDSect ::= CDStart CData CDEnd
pub data Sectioned : List Sign → List ℕ → List ℕ → Type 0 where
  section : {xs : List Sign} {s a b t : List ℕ} → Reads CDStart s a → Signs in_section xs a b → Reads CDEnd b t → Sectioned xs s t
