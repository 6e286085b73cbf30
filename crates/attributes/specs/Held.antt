-- The attributes of a tag found by computing. They are a function of the tag: of what stands in its head after `<` and its name. So a tag
-- that keeps its head keeps its attributes, and `<`, name, `>` has none. In order: a value made normal; one attribute; all of them; that
-- one is among them.
use Rattle.std.specs.Prelude.{Bool, false, cond, ◌&&◌, ◌||◌, List, [], ◌∷◌, ℕ, zero, suc, ◌-◌, eqb, length, drop}
use Rattle.std.proofs.Math.Option.{Option, none, some}
use Rattle.xml.specs.Forest.{Name, Tag}
use Rattle.xml.specs.Productions.{same}
use Rattle.xml.specs.Sign.{Where, in_double, in_single}
use Rattle.readers.specs.Read.{and_then, space_of}
use Rattle.readers.specs.Value.{value_of}
use Rattle.readers.specs.Sign.{signs_in}
use Rattle.readers.specs.Named.{eq_of, piece_named}
use Rattle.attributes.specs.Normal.{normal}
use Rattle.attributes.specs.Attribute.{Attribute, attribute}

-- ---- a value

-- in which quotes a value is, by its first
abbrev pub quotes_of : ℕ → Where
quotes_of q = cond (eqb q 0x22) in_double in_single

-- the value at the front, from its first quote on
unfoldable pub normal_at : List ℕ → List ℕ
normal_at [] = []
normal_at (q ∷ s) = normal (signs_in (quotes_of q) 0 s)

-- ---- attributes

-- S Attribute: the attribute, and what follows it all
pub record Held : Type 0 where
  pub attribute : Attribute
  pub rest : List ℕ

unfoldable pub held_of : List ℕ → Option Held
held_of s =
    and_then (space_of s) (λ t. and_then (piece_named t) (λ p. and_then (eq_of p.rest) (λ u. and_then (value_of u) (λ v.
    some (record { attribute = attribute p.name (normal_at u); rest = v })))))

abbrev pub attributes_by : Option Held → (ℕ → List Attribute) → ℕ → List Attribute
attributes_by none later n = []
attributes_by (some x) later n = x.attribute ∷ later (n - length x.rest)

-- those at the front of s without its first k bytes
unfoldable pub attributes_in : ℕ → List ℕ → List Attribute
attributes_in k [] = []
attributes_in (suc k) (b ∷ s) = attributes_in k s
attributes_in zero (b ∷ s) = attributes_by (held_of (b ∷ s)) (λ k. attributes_in k s) (length s)

unfoldable pub attributes_of : Tag → List Attribute
attributes_of t = attributes_in 0 (drop (suc (length t.name)) t.head)

-- ---- one with a name and a value

unfoldable pub has_attribute : List Attribute → Name → List ℕ → Bool
has_attribute [] n v = false
has_attribute (x ∷ xs) n v = same x.name n && same x.value v || has_attribute xs n v
