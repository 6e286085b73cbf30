-- "the text directly in the element, CDATA content included, literal CR LF and CR made LF, references replaced", by the productions that
-- derive what stands in it. In order: line ends; what an item says; the text of an element. Characters are code points here, and what is
-- said is their UTF-8.
use Rattle.std.specs.Prelude.{◌≡◌, List, [], ◌∷◌, ◌++◌, map, ℕ}
use Rattle.xml.specs.Utf8.{utf8}
use Rattle.xml.specs.Notation.{Reads}
use Rattle.xml.specs.Productions.{Comment, PI}
use Rattle.xml.specs.Sign.{Refers, literal, Sectioned}
use Rattle.xml.specs.Forest.{Tag, Forest, nil, other, elem}
use Rattle.readers.specs.Sign.{Texted}

abbrev pub written : List ℕ → List ℕ
written [] = []
written (c ∷ cs) = utf8 c ++ written cs

-- "literal CR LF and CR made LF", of literal characters that stand side by side in the document
pub data Lines : List ℕ → List ℕ → Type 0 where
  over : Lines [] []
  pair : {cs ds : List ℕ} → Lines cs ds → Lines (0xD ∷ 0xA ∷ cs) (0xA ∷ ds)
  lone : {cs ds : List ℕ} → ((es : List ℕ) → cs ≡ 0xA ∷ es → ⊥) → Lines cs ds → Lines (0xD ∷ cs) (0xA ∷ ds)
  kept : {c : ℕ} {cs ds : List ℕ} → (c ≡ 0xD → ⊥) → Lines cs ds → Lines (c ∷ cs) (c ∷ ds)

-- an item that is no element, by its bytes: [14] CharData, whose characters are cs; [18] CDSect, whose characters are cs; [67] Reference,
-- which says c; [15] Comment and [16] PI, which say nothing
pub data Says : (raw w : List ℕ) → Type 0 where
  text : {raw cs ds : List ℕ} → Texted cs raw [] → Lines cs ds → Says raw (written ds)
  section : {raw cs ds : List ℕ} → Sectioned (map literal cs) raw [] → Lines cs ds → Says raw (written ds)
  reference : {raw : List ℕ} {c : ℕ} → Refers c raw [] → Says raw (utf8 c)
  comment : {raw : List ℕ} → Reads Comment raw [] → Says raw []
  instruction : {raw : List ℕ} → Reads PI raw [] → Says raw []

-- "directly in the element": of the items inside it, elements apart
pub data TextSays : (f : Forest) (w : List ℕ) → Type 0 where
  over : TextSays nil []
  item : {raw v w : List ℕ} {rest : Forest} → Says raw v → TextSays rest w → TextSays (other raw rest) (v ++ w)
  element : {t : Tag} {kids rest : Forest} {close w : List ℕ} → TextSays rest w → TextSays (elem t kids close rest) w
