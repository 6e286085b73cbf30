-- What a list of paths says of an element, from the names root to element and the element's attributes: not selected, selected, or selected
-- by a marked path. First its meaning, then the verdict computed; proofs/Meaning.antt shows that they are one.
use Rattle.std.specs.Prelude.{◌≡◌, Bool, true, false, ◌&&◌, ◌||◌, List, [], ◌∷◌, ℕ}
use Rattle.paths.specs.Path.{Path}
use Rattle.attributes.specs.Attribute.{Attribute}
use Rattle.matcher.specs.Pick.{Picks, picks}
use Rattle.matcher.specs.declared.Verdict.{Verdict}
use Rattle.matcher.specs.declared.Verdict.TheVariants.{Unselected, Selected, Marked}

pub data Some {A : Type 0} (P : A → Type 0) : List A → Type 0 where
  this : {x : A} {xs : List A} → P x → Some P (x ∷ xs)
  later : {x : A} {xs : List A} → Some P xs → Some P (x ∷ xs)

abbrev pub BySome : List Path → List (List ℕ) → List Attribute → Type 0
BySome ps names xs = Some (λ p. Picks p names xs) ps

abbrev pub ByMarked : List Path → List (List ℕ) → List Attribute → Type 0
ByMarked ps names xs = Some (λ p. (p.marked ≡ true) × Picks p names xs) ps

-- "Selected by a # path"; "Else selected"; "Else"
abbrev pub Says : List Path → List (List ℕ) → List Attribute → Verdict → Type 0
Says ps names xs Marked = ByMarked ps names xs
Says ps names xs Selected = BySome ps names xs × ¬ ByMarked ps names xs
Says ps names xs Unselected = ¬ BySome ps names xs

-- ---- computed

abbrev pub some : {A : Type 0} → (A → Bool) → List A → Bool
some f [] = false
some f (x ∷ xs) = f x || some f xs

-- by whether a marked path picks it, and whether any does
abbrev pub decided : Bool → Bool → Verdict
decided true b = Marked
decided false true = Selected
decided false false = Unselected

unfoldable pub verdict_of : List Path → List (List ℕ) → List Attribute → Verdict
verdict_of ps names xs = decided (some (λ p. p.marked && picks p names xs) ps) (some (λ p. picks p names xs) ps)
