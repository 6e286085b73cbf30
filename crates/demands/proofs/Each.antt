-- Of each element of a document: what holds of a tag and its end tag wherever a derivation has them holds of every element of the forest
-- that is derived. In order: what is said of each element; content; what stands outside the root; the root; the document.
use mathlib.Core.Bool.{Bool}
use mathlib.Core.List.{List, []}
use Prim.Native.Nat.{ℕ}
use Rattle.xml.specs.Notation.{text}
use Rattle.xml.specs.Forest.{Name, Tag, Forest, nil, other, elem}
use Rattle.xml.specs.Document as doc
use Rattle.xml.specs.Document.{Opens, Closes, Content, After, Rooted, Document}

-- P holds of the tag and the end tag's bytes, which are none for an empty tag
abbrev pub Each : (Tag → List ℕ → Type 0) → Forest → Type 0
Each P nil = Unit {0}
Each P (other raw rest) = Each P rest
Each P (elem t kids close rest) = P t close × Each P kids × Each P rest

module _ {Fits : ℕ → Name → List Name → Type 0} (P : Tag → List ℕ → Type 0)
    (empty : (v : Tag) (ns : List Name) (s t : List ℕ) → Opens (text "/>") v ns s t → P v [])
    (full : (v : Tag) (ns : List Name) (raw s a b t : List ℕ) → Opens (text ">") v ns s a → Closes v.name raw b t → P v raw) where
  content_each : {k : ℕ} {chars : Bool} {s t : List ℕ} {f : Forest} → Content Fits k chars s t f → Each P f
  content_each doc.end = tt
  content_each (doc.data_next e i r) = content_each r
  content_each (doc.reference_next i r) = content_each r
  content_each (doc.section_next i r) = content_each r
  content_each (doc.instruction_next i r) = content_each r
  content_each (doc.comment_next i r) = content_each r
  content_each (doc.empty_next o h r) = (empty _ _ _ _ o, tt, content_each r)
  content_each (doc.element_next o h i x r) = (full _ _ _ _ _ _ _ o x, content_each i, content_each r)

  after_each : {space : Bool} {s : List ℕ} {f : Forest} → After Fits space s f → Each P f
  after_each doc.over = tt
  after_each (doc.space_after i a) = after_each a
  after_each (doc.instruction_after i a) = after_each a
  after_each (doc.comment_after i a) = after_each a

  rooted_each : {space : Bool} {s : List ℕ} {f : Forest} → Rooted Fits space s f → Each P f
  rooted_each (doc.space_before i r) = rooted_each r
  rooted_each (doc.instruction_before i r) = rooted_each r
  rooted_each (doc.comment_before i r) = rooted_each r
  rooted_each (doc.empty_root o h a) = (empty _ _ _ _ o, tt, after_each a)
  rooted_each (doc.root o h i x a) = (full _ _ _ _ _ _ _ o x, content_each i, after_each a)

  pub document_each : {s : List ℕ} {f : Forest} → Document Fits s f → Each P f
  document_each (doc.declared i r) = rooted_each r
  document_each (doc.bare r) = rooted_each r
