-- What an answer says in the grammar's words of the attributes that stand in a tag:
-- that one with a name and a value is among them, or that none is.
use Rattle.std.specs.Prelude.{Bool, true, false, List, ℕ}
use Rattle.xml.specs.Forest.{Name}
use Rattle.attributes.specs.Attribute.{Attribute, Has}

abbrev pub HasSays : List Attribute → Name → List ℕ → Bool → Type 0
HasSays xs n text true = Has n text xs
HasSays xs n text false = Has n text xs → ⊥
