-- What each answer says, in the words of the grammar: one relation for each kind of answer, by its cases. proofs/Meaning.antt shows that
-- the definitions which the contracts cite give the one answer that says so.
use Rattle.std.specs.Prelude.{◌≡◌, List, [], ℕ, ◌≤◌, ◌<◌, length, drop, Option, Some, None, Result, Ok, Err}
use Rattle.xml.specs.Notation.{Reads, char, ◌∗}
use Rattle.xml.specs.Productions.{Char, is_space, NameChar, Name}
use Rattle.chars.specs.declared.whole.CharError.{CharError}

-- all of d is Char*; or all before a place is, and no Char stands there
abbrev pub CheckSays : List ℕ → Result Unit CharError → Type 0
CheckSays d (Ok tt) = Reads (Char ∗) d []
CheckSays d (Err e) =
    (e.valid_up_to < length d)
    × Reads (Char ∗) d (drop e.valid_up_to d)
    × ((t : List ℕ) → Reads Char (drop e.valid_up_to d) t → ⊥)

-- the numbers of document 01 for what the check finds: 5 and the offset, or none
abbrev pub number_of : Result Unit CharError → ℕ
number_of (Ok tt) = 0
number_of (Err e) = 5

abbrev pub second_of : Result Unit CharError → ℕ
second_of (Ok tt) = 0
second_of (Err e) = e.valid_up_to

-- from at to e stands a Name, and no NameChar follows it; or no Name stands at the place at
abbrev pub NameSays : List ℕ → ℕ → Option ℕ → Type 0
NameSays d at (Some e) = Reads Name (drop at d) (drop e d) × (e ≤ length d) × ((t : List ℕ) → Reads NameChar (drop e d) t → ⊥)
NameSays d at None = (t : List ℕ) → Reads Name (drop at d) t → ⊥

-- from at to e stands white space, and no more of it follows; a place past the end stays
pub record SpaceSays (d : List ℕ) (at e : ℕ) : Type 0 where
  pub reads : Reads (char is_space ∗) (drop at d) (drop e d)
  pub no_more : (t : List ℕ) → Reads (char is_space) (drop e d) t → ⊥
  pub inside : at ≤ length d → e ≤ length d
  pub past : length d ≤ at → e ≡ at
