-- Document 01, "What is written", as a relation: `Writes ps above f w`, of the items f, which stand inside the elements of the names
-- `above`, the root's first, the bytes w are written by the paths ps. Each way to write stands under its sentence there. What is
-- selected is said by a choice of places for a path's steps and by the path's attribute test, `BySome` and `ByMarked`, and not by a verdict
-- that is computed. proofs/Under.antt shows that the cut is written, and nothing else; proofs/Borne.antt, that an element's attributes are
-- those of its tag by [41] and [10].
use Rattle.std.specs.Prelude.{◌≡◌, List, [], ◌∷◌, ◌++◌, ◌⊎◌, ℕ}
use Rattle.xml.specs.Notation.{bytes}
use Rattle.xml.specs.Forest.{Name, Tag, Forest, nil, other, elem, render}
use Rattle.attributes.specs.Held.{attributes_of}
use Rattle.paths.specs.Path.{Path}
use Rattle.matcher.specs.Says.{Some, BySome, ByMarked}
use Rattle.demands.specs.Elements.{elements}

-- the names from the root to the element of the tag t
abbrev pub names_of : List Name → Tag → List Name
names_of above t = above ++ t.name ∷ []

-- an element somewhere among the items f is selected
abbrev pub SomeSelected : List Path → List Name → Forest → Type 0
SomeSelected ps above f = Some (λ x. BySome ps x.names x.attributes) (elements above f)

-- "the root, or with a selected element somewhere under it": the root stands inside no element
abbrev pub LeadsOn : List Path → List Name → Tag → Forest → Type 0
LeadsOn ps above t kids = (above ≡ []) ⊎ SomeSelected ps (names_of above t) kids

-- `kept` are the bytes of the kept children, w what is written of the items after the element
pub data Writes (ps : List Path) : (above : List Name) (f : Forest) (w : List ℕ) → Type 0 where
  over : {above : List Name} → Writes ps above nil []
  -- "Selected by a # path: all bytes from the `<` of the start tag through the `>` of its end tag (an empty tag is its own end), as they
  -- came, and so everything inside."
  whole : {above : List Name} {t : Tag} {kids rest : Forest} {close w : List ℕ} → ByMarked ps (names_of above t) (attributes_of t)
      → Writes ps above rest w → Writes ps above (elem t kids close rest) (t.head ++ t.tail ++ render kids ++ close ++ w)
  -- "Else selected: the tag's bytes from `<` up to but without the final `>` or `/>`, then `>`; the kept children; `</`, name, `>`."
  with_tag : {above : List Name} {t : Tag} {kids rest : Forest} {close kept w : List ℕ} → ¬ ByMarked ps (names_of above t) (attributes_of t)
      → BySome ps (names_of above t) (attributes_of t) → Writes ps (names_of above t) kids kept → Writes ps above rest w
      → Writes ps above (elem t kids close rest) (t.head ++ bytes ">" ++ kept ++ bytes "</" ++ t.name ++ bytes ">" ++ w)
  -- "Else the root, or with a selected element somewhere under it: `<`, name, `>`; the kept children; `</`, name, `>`."
  bare : {above : List Name} {t : Tag} {kids rest : Forest} {close kept w : List ℕ} → ¬ BySome ps (names_of above t) (attributes_of t)
      → LeadsOn ps above t kids → Writes ps (names_of above t) kids kept → Writes ps above rest w
      → Writes ps above (elem t kids close rest)
      (bytes "<" ++ t.name ++ bytes ">" ++ kept ++ bytes "</" ++ t.name ++ bytes ">" ++ w)
  -- "Everything else is dropped: text, comments, instructions and the declaration too."
  dropped : {above : List Name} {t : Tag} {kids rest : Forest} {close w : List ℕ} → ¬ BySome ps (names_of above t) (attributes_of t)
      → ¬ LeadsOn ps above t kids → Writes ps above rest w → Writes ps above (elem t kids close rest) w
  dropped_item : {above : List Name} {raw w : List ℕ} {rest : Forest} → Writes ps above rest w → Writes ps above (other raw rest) w
