-- What a path selects, as documents 01 and 02 word it: the places that its steps can be given. In order: where a step may stand, what it
-- passes, places for all steps, and the choice of them. Steps are laid on a list of anything that a step may fit, at the places 1 to k: for
-- a path the names from the root to an element.
use Rattle.std.specs.Prelude.{◌≡◌, List, [], ◌∷◌, ℕ, ◌+◌, ◌≤◌, length}
use Rattle.paths.specs.Path.{Test, any, named, Step}
use Rattle.paths.specs.declared.Kind.{Kind}
use Rattle.paths.specs.declared.Kind.TheVariants.{Child, Descendant, SelfStep, DescendantOrSelf}

-- "a child step stands exactly one place below the step before, a descendant step at least one"; "Self takes the same place as the step
-- before, descendant-or-self that place or any below; place 0 is no element, so no step takes it"
abbrev pub Below : Kind → ℕ → ℕ → Type 0
Below Child before place = place ≡ before + 1
Below Descendant before place = before + 1 ≤ place
Below SelfStep before place = (place ≡ before) × (1 ≤ place)
Below DescendantOrSelf before place = (before ≤ place) × (1 ≤ place)

-- what stands at a place; the root's is 1
pub data At {A : Type 0} : List A → ℕ → A → Type 0 where
  root : {x : A} {xs : List A} → At (x ∷ xs) 1 x
  under : {y x : A} {xs : List A} {p : ℕ} → At xs p x → At (y ∷ xs) (p + 1) x

-- a step stands at a place, where the step before it stands at the place `before`
pub record Stands {A : Type 0} (Fits : Step → A → Type 0) (xs : List A) (before : ℕ) (s : Step) (place : ℕ) : Type 0 where
  pub below : Below s.kind before place
  pub what : A
  pub there : At xs place what
  pub fits : Fits s what

-- a place for each step, where the step before the first of them stands at the place `before`, and the last of them at the place `end`.
-- "Places may now repeat"
pub data Laid {A : Type 0} (Fits : Step → A → Type 0) (xs : List A) : ℕ → List Step → List ℕ → ℕ → Type 0 where
  all : {end : ℕ} → Laid Fits xs end [] [] end
  next : {before place end : ℕ} {s : Step} {ss : List Step} {places : List ℕ}
      → Stands Fits xs before s place → Laid Fits xs place ss places end → Laid Fits xs before (s ∷ ss) (place ∷ places) end

-- "places can be chosen for its steps"; "before the first step is place 0"
abbrev pub Reaches : {A : Type 0} → (Step → A → Type 0) → List A → List Step → ℕ → Type 0
Reaches Fits xs steps end = (places : List ℕ) × Laid Fits xs 0 steps places end

-- ---- on names

-- "each name test equals the name there, `*` any name"
abbrev pub Passes : Test → List ℕ → Type 0
Passes any n = Unit {0}
Passes (named m) n = m ≡ n

abbrev pub PassesName : Step → List ℕ → Type 0
PassesName s n = Passes s.test n

-- "the last step has place k"
abbrev pub Selects : List Step → List (List ℕ) → Type 0
Selects steps names = Reaches PassesName names steps (length names)
