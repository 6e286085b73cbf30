-- What each answer of a reader says, in the grammar's words. A reading from the place `at` of d on ends at a place e, and what stands from
-- at to e is read; or it is a fault, and nothing is read there. By a rule of the grammar, and for text by `TextIs`.
use Rattle.std.specs.Prelude.{List, ℕ, ◌≤◌, length, drop, Option, Some, None}
use Rattle.xml.specs.Notation.{Rule, Reads}
use Rattle.readers.specs.Meaning.{TextIs}

-- R s t: of s is read what leaves t
abbrev pub Says : (List ℕ → List ℕ → Type 0) → List ℕ → ℕ → Option ℕ → Type 0
Says R d at (Some e) = R (drop at d) (drop e d) × (at ≤ e) × (e ≤ length d)
Says R d at None = (t : List ℕ) → R (drop at d) t → ⊥

abbrev pub ReadingSays : Rule → List ℕ → ℕ → Option ℕ → Type 0
ReadingSays r = Says (Reads r)

abbrev pub TextSays : List ℕ → ℕ → Option ℕ → Type 0
TextSays = Says TextIs
