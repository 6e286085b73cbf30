-- What an answer says in the grammar's words of a value with its characters:
-- that it is a text once it is made normal, or that it is not.
use Rattle.std.specs.Prelude.{◌≡◌, Bool, true, false, List, ℕ}
use Rattle.xml.specs.Sign.{Sign}
use Rattle.attributes.specs.Normal.{normal}

abbrev pub ValueSays : List Sign → List ℕ → Bool → Type 0
ValueSays signs text true = normal signs ≡ text
ValueSays signs text false = normal signs ≡ text → ⊥
