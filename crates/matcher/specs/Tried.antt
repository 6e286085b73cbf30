-- The name tests tried at an element. In order: how many of some things something holds of; the steps of a list, each with those before it;
-- when a step is tried, in document 02's words; how many are at one element. proofs/Tests.antt shows that the matcher's bits give that.
use Rattle.std.specs.Prelude.{List, [], ◌∷◌, ◌++◌, ℕ, ◌+◌, length}
use Rattle.paths.specs.Path.{Step, Path}
use Rattle.matcher.specs.Select.{Below, Reaches, PassesName}

-- P holds of so many
pub data Counted {A : Type 0} (P : A → Type 0) : List A → ℕ → Type 0 where
  none : Counted P [] 0
  this : {x : A} {xs : List A} {n : ℕ} → P x → Counted P xs n → Counted P (x ∷ xs) (1 + n)
  other : {x : A} {xs : List A} {n : ℕ} → (P x → ⊥) → Counted P xs n → Counted P (x ∷ xs) n

-- a step, with the steps before it
abbrev pub Placing : Type 0
Placing = List Step × Step

-- those of a path, after the steps `done`
abbrev pub placings : List Step → List Step → List Placing
placings done [] = []
placings done (s ∷ ss) = (done, s) ∷ placings (done ++ s ∷ []) ss

-- "each step of each line", repeats too
abbrev pub steps_of : List Path → List Placing
steps_of [] = []
steps_of (p ∷ ps) = placings [] p.steps ++ steps_of ps

-- "the steps before it can be laid so that the step's place would be that element": here a place in a list of anything that steps may fit
abbrev pub TriedAt : {A : Type 0} → (Step → A → Type 0) → List A → ℕ → Placing → Type 0
TriedAt Fits xs place x = (before : ℕ) × Reaches Fits xs x.0 before × Below x.1.kind before place

-- at the element to which the names lead
abbrev pub Tried : List (List ℕ) → Placing → Type 0
Tried names x = TriedAt PassesName names (length names) x

-- so many of the list's name tests are tried there
abbrev pub NameTests : List Path → List (List ℕ) → ℕ → Type 0
NameTests ps names n = Counted (Tried names) (steps_of ps) n
