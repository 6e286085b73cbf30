-- A document as a forest: items one after the other, and an element with the items inside it. Then the bytes of a forest, and the tags that
-- are written of a name alone.
use Rattle.std.specs.Prelude.{List, [], ◌++◌, ℕ}
use Rattle.xml.specs.Notation.{bytes}

abbrev pub Name : Type 0
Name = List ℕ

-- a start tag or empty tag: its name; its bytes from `<` up to but without the final `>` or `/>`; and that `>` or `/>`
pub record Tag : Type 0 where
  pub name : Name
  pub head : List ℕ
  pub tail : List ℕ

-- an item that is no tag, by its bytes; an element: its tag, the items inside it, and its end tag's bytes, none for an empty tag
pub data Forest : Type 0 where
  nil : Forest
  other : (raw : List ℕ) (rest : Forest) → Forest
  elem : (tag : Tag) (kids : Forest) (close : List ℕ) (rest : Forest) → Forest

abbrev pub render : Forest → List ℕ
render nil = []
render (other raw rest) = raw ++ render rest
render (elem t kids close rest) = t.head ++ (t.tail ++ (render kids ++ (close ++ render rest)))

-- `<`, name, `>`; and `</`, name, `>`
abbrev pub start_tag : Name → List ℕ
start_tag n = bytes "<" ++ (n ++ bytes ">")

abbrev pub end_tag : Name → List ℕ
end_tag n = bytes "</" ++ (n ++ bytes ">")
