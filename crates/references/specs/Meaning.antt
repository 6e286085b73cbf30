-- What each answer says, in the grammar's words, of any bytes and any place: a reference that says a character stands there, and ends at
-- a place; a character comes there, with its origin, and ends at a place; or there is none.
use Rattle.std.specs.Prelude.{List, ℕ, ◌≤◌, length, drop, Option, Some, None}
use Rattle.xml.specs.Sign.{Refers, Sign as Origin, literal, referred, Where, Comes}
use Rattle.references.specs.declared.next.Sign.{Sign}
use Rattle.references.specs.declared.next.Sign.TheVariants.{Literal, Referred, Nothing}

-- [66] by the number that the digits make, [68] by the five names of section 4.6
abbrev pub ReferenceSays : List ℕ → ℕ → Option (ℕ × ℕ) → Type 0
ReferenceSays d at (Some (c, e)) = Refers c (drop at d) (drop e d) × (at ≤ e) × (e ≤ length d)
ReferenceSays d at None = (c : ℕ) (t : List ℕ) → Refers c (drop at d) t → ⊥

abbrev pub NextSays : Where → List ℕ → ℕ → Sign → Type 0
NextSays w d at (Literal c e) = Comes w (literal c) (drop at d) (drop e d) × (at ≤ e) × (e ≤ length d)
NextSays w d at (Referred c e) = Comes w (referred c) (drop at d) (drop e d) × (at ≤ e) × (e ≤ length d)
NextSays w d at Nothing = (x : Origin) (t : List ℕ) → Comes w x (drop at d) t → ⊥
