-- A test that decides where steps can be laid to the end of a list: at each place the next step takes it, and then those after it that may
-- stay there; or it goes further. proofs/Places.antt shows that it says what specs/Select.antt does.
use Rattle.std.specs.Prelude.{Bool, true, false, ◌&&◌, ◌||◌, List, [], ◌∷◌, ℕ}
use Rattle.paths.specs.Path.{Step}
use Rattle.compiled.specs.Kinds.{stays, goes, far}
use Rattle.compiled.specs.Bits.{passes}

-- a step stands at x: some of the steps after it stay there, and `rest` holds of those left
abbrev pub staying : {A : Type 0} → (Step → A → Bool) → A → (List Step → Bool) → List Step → Bool
staying fits x rest [] = rest []
staying fits x rest (s ∷ ss) = (stays s.kind && (fits s x && staying fits x rest ss)) || rest (s ∷ ss)

abbrev pub lays : {A : Type 0} → (Step → A → Bool) → List A → List Step → Bool
lays fits [] [] = true
lays fits [] (s ∷ ss) = false
lays fits (x ∷ xs) [] = false
lays fits (x ∷ xs) (s ∷ ss) =
    goes s.kind && ((fits s x && staying fits x (lays fits xs) ss) || (far s.kind && lays fits xs (s ∷ ss)))

-- ---- on names

abbrev pub passes_name : Step → List ℕ → Bool
passes_name s n = passes n s.test

abbrev pub selects : List Step → List (List ℕ) → Bool
selects steps names = lays passes_name names steps
