-- RFC 4180 records, in document 02's words. In order: a field; a record; the records of a forest; the table of a document by a list.
-- Names stand from the root down to the element. What is selected is said by a choice of places for a path's steps and by its attribute
-- test, `BySome`.
use Rattle.std.specs.Prelude.{◌≡◌, List, [], ◌∷◌, ◌++◌, ℕ, Ok}
use Rattle.xml.specs.Notation.{bytes}
use Rattle.xml.specs.Forest.{Name, Tag, Forest, nil, other, elem}
use Rattle.attributes.specs.Held.{attributes_of}
use Rattle.paths.specs.Path.{Path}
use Rattle.paths.specs.Answer.{Before, Says}
use Rattle.matcher.specs.Says.{Some, BySome}
use Rattle.matcher.specs.Tried.{Counted}
use Rattle.demands.specs.Elements.{Element, elements}
use Rattle.demands.specs.Judged.{Accepted}
use Rattle.demands.specs.Rule.{names_of}
use Rattle.tables.specs.Said.{TextSays}

-- ---- fields

-- "a comma, a quote, CR or LF"
pub data Special : ℕ → Type 0 where
  comma : Special 0x2C
  quote : Special 0x22
  cr : Special 0xD
  lf : Special 0xA

-- "quotes inside are doubled"
pub data Doubled : (s w : List ℕ) → Type 0 where
  over : Doubled [] []
  twice : {s w : List ℕ} → Doubled s w → Doubled (0x22 ∷ s) (0x22 ∷ 0x22 ∷ w)
  once : {b : ℕ} {s w : List ℕ} → (b ≡ 0x22 → ⊥) → Doubled s w → Doubled (b ∷ s) (b ∷ w)

-- "A field is quoted exactly when it holds a comma, a quote, CR or LF"
pub data FieldSays : (s w : List ℕ) → Type 0 where
  plain : {s : List ℕ} → ¬ Some Special s → FieldSays s s
  quoted : {s w : List ℕ} → Some Special s → Doubled s w → FieldSays s (bytes "\"" ++ w ++ bytes "\"")

-- ---- records

-- "the names from the root joined by `/`"
abbrev pub joined : List Name → List ℕ
joined [] = []
joined (n ∷ []) = n
joined (n ∷ m ∷ ns) = n ++ bytes "/" ++ joined (m ∷ ns)

-- "The first field is the names from the root .. The second is the text directly in the element"; "Every record .. ends in CR LF"
pub data RecordSays (names : List Name) (kids : Forest) : (w : List ℕ) → Type 0 where
  record_of : {s v w : List ℕ} → FieldSays (joined names) v → TextSays kids s → FieldSays s w
      → RecordSays names kids (v ++ bytes "," ++ w ++ bytes "\r\n")

-- "one record for each selected element in the order of start tags": w are the records of the items f, which stand inside the elements of
-- the names `above`. "The mark # changes nothing here."
pub data RowsSay (ps : List Path) : (above : List Name) (f : Forest) (w : List ℕ) → Type 0 where
  over : {above : List Name} → RowsSay ps above nil []
  aside : {above : List Name} {raw w : List ℕ} {rest : Forest} → RowsSay ps above rest w → RowsSay ps above (other raw rest) w
  selected : {above : List Name} {t : Tag} {kids rest : Forest} {close u v w : List ℕ} → BySome ps (names_of above t) (attributes_of t)
      → RecordSays (names_of above t) kids u → RowsSay ps (names_of above t) kids v → RowsSay ps above rest w
      → RowsSay ps above (elem t kids close rest) (u ++ v ++ w)
  unselected : {above : List Name} {t : Tag} {kids rest : Forest} {close v w : List ℕ} → ¬ BySome ps (names_of above t) (attributes_of t)
      → RowsSay ps (names_of above t) kids v → RowsSay ps above rest w → RowsSay ps above (elem t kids close rest) (v ++ w)

-- ---- the table

-- By a list and of a document that are accepted, w is the table, and c the number of elements selected: the list is the print of some
-- paths, and production [1] derives the document with some forest. "the header `path,text`" is a record "too".
pub record Tables (list d w : List ℕ) (c : ℕ) : Type 0 where
  pub listed : Says list (Ok tt)
  pub paths : List Path
  pub printed : Before list paths []
  pub forest : Forest
  pub accepted : Accepted d forest
  pub records : List ℕ
  pub rows : RowsSay paths [] forest records
  pub bytes_are : w ≡ bytes "path,text\r\n" ++ records
  pub selected : Counted (λ (x : Element). BySome paths x.names x.attributes) (elements [] forest) c
