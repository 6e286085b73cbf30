-- The attributes of a tag, each by its name and its value made normal. In order: attributes between two places, in the grammar's words and
-- as xml/specs/Document has their names; those of a tag, which are in its head; that one with a name and a value is among them.
use Rattle.std.specs.Prelude.{◌≡◌, List, [], ◌∷◌, ◌++◌, ℕ}
use Rattle.xml.specs.Notation.{Reads, bytes, opt}
use Rattle.xml.specs.Productions.{S, Name as NameRule, Eq}
use Rattle.xml.specs.Forest.{Name, Tag}
use Rattle.xml.specs.Sign.{Sign, Valued}
use Rattle.attributes.specs.Normal.{normal}

pub record Attribute : Type 0 where
  pub name : Name
  pub value : List ℕ

abbrev pub attribute : Name → List ℕ → Attribute
attribute n v = record { name = n; value = v }

-- (S Attribute)*, [41] Attribute ::= Name Eq AttValue
pub data Holds : List Attribute → List ℕ → List ℕ → Type 0 where
  done : {s : List ℕ} → Holds [] s s
  more : {n : Name} {signs : List Sign} {xs : List Attribute} {s a b c e t : List ℕ} → Reads S s a → Reads NameRule a b → a ≡ n ++ b
      → Reads Eq b c → Valued signs c e → Holds xs e t → Holds (attribute n (normal signs) ∷ xs) s t

-- (S Attribute)* S?, and nothing else
pub record Lists (s : List ℕ) (xs : List Attribute) : Type 0 where
  pub last : List ℕ
  pub holds : Holds xs s last
  pub blank : Reads (opt S) last []

-- [40] STag, [44] EmptyElemTag: '<' Name (S Attribute)* S? and then the tag's end, which is not in its head
pub record Bears (v : Tag) (xs : List Attribute) : Type 0 where
  pub from : List ℕ
  pub head_is : v.head ≡ bytes "<" ++ (v.name ++ from)
  pub named : Reads NameRule (v.name ++ from) from
  pub lists : Lists from xs

abbrev pub names_of : List Attribute → List Name
names_of [] = []
names_of (x ∷ xs) = x.name ∷ names_of xs

-- "it has that attribute and the value .. equals it byte for byte"
pub data Has (n : Name) (v : List ℕ) : List Attribute → Type 0 where
  here : {xs : List Attribute} → Has n v (attribute n v ∷ xs)
  there : {x : Attribute} {xs : List Attribute} → Has n v xs → Has n v (x ∷ xs)
