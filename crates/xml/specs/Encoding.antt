-- What a declaration says of the encoding. XML 1.0, section 4.3.3: "it is a fatal error for an entity including an encoding declaration to
-- be presented to the XML processor in an encoding other than that named in the declaration", and names are matched "in a
-- case-insensitive way". In order: [80] over what stands as the name, and [23] over what stands as the encoding; `UTF-8`, and the
-- declaration that a document may have; another encoding. Documents are UTF-8, so this is a constraint on [1]: Document.antt.
use Rattle.std.specs.Prelude.{List, ℕ}
use Rattle.xml.specs.Notation.{Rule, lit, ◌⨾◌, ◌∣◌, Reads, text, opt}
use Rattle.xml.specs.Productions.{S, Eq, VersionInfo, EncName, SDDecl}
use Rattle.xml.specs.Language.{Language}

-- [80] EncodingDecl ::= S 'encoding' Eq ('"' EncName '"' | "'" EncName "'" ), with n for EncName
abbrev pub EncodingBy : Rule → Rule
EncodingBy n = S ⨾ text "encoding" ⨾ Eq ⨾ (text "\"" ⨾ n ⨾ text "\"" ∣ text "'" ⨾ n ⨾ text "'")

-- [23] XMLDecl ::= '<?xml' VersionInfo EncodingDecl? SDDecl? S? '?>', with e for EncodingDecl?
abbrev pub DeclBy : Rule → Rule
DeclBy e = text "<?xml" ⨾ VersionInfo ⨾ e ⨾ opt SDDecl ⨾ opt S ⨾ text "?>"

-- "one that says UTF-8 with ASCII letter case ignored"
abbrev pub Utf8Name : Rule
Utf8Name = (text "U" ∣ text "u") ⨾ (text "T" ∣ text "t") ⨾ (text "F" ∣ text "f") ⨾ text "-8"

-- "Accept a declaration without an encoding, or one that says UTF-8"
abbrev pub Utf8Decl : Rule
Utf8Decl = DeclBy (opt (EncodingBy Utf8Name))

-- a declaration stands at the front of s, its EncName is n, and t is what follows it
pub record Names (s n t : List ℕ) : Type 0 where
  pub name : Language EncName n
  pub stands : Reads (DeclBy (EncodingBy (lit n))) s t

-- s "has the right shape of a declaration and names another encoding"
abbrev pub NamesOther : List ℕ → Type 0
NamesOther s = (n : List ℕ) × (t : List ℕ) × Names s n t × (Language Utf8Name n → ⊥)
