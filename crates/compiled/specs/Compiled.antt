-- The compiled list, every entry of every table a function of the paths: the rows, the places and lengths of the names, the places of the
-- tests, and all tables one behind the other.
use Rattle.std.specs.Prelude.{List, [], ◌∷◌, ◌++◌, map, ℕ, ◌+◌, ◌-◌, length, replicate}
use Rattle.std.proofs.Math.Option.{Option, none, some}
use Rattle.paths.specs.Path.{AttributeTest, Path, print_step, print_all, print_line}
use Rattle.compiled.specs.Bits.{stays_of, goes_of, far_of, lasts_of, marks_of, fit_of, other_fit}
use Rattle.lookup.specs.Names.{names_of, chains_of}
use Rattle.lookup.specs.Index.{padded}

abbrev pub joined : List (List ℕ) → List ℕ
joined [] = []
joined (x ∷ xs) = x ++ joined xs

-- row 0 for a name that no step has, a row for each name, and the rest as row 0
unfoldable pub rows_of : List Path → List ℕ
rows_of ps =
    joined (other_fit ps ∷ map (λ x. fit_of ps x.name) (names_of ps) ++ replicate (512 - length (names_of ps)) (other_fit ps))

-- the places of the names in the list, and their lengths
abbrev pub places_of : List Path → List ℕ
places_of ps = padded 512 (map (λ x. x.place) (names_of ps))

abbrev pub lengths_of : List Path → List ℕ
lengths_of ps = padded 512 (map (λ x. length x.name) (names_of ps))

-- the places where the tests of the paths begin, right behind their steps, in a list that begins at the place at: 0 for a path without one
abbrev pub test_place : Option AttributeTest → ℕ → ℕ
test_place none place = 0
test_place (some x) place = place

abbrev pub test_places : ℕ → List Path → List ℕ
test_places at [] = []
test_places at (p ∷ ps) =
    test_place p.test (at + length (print_all print_step p.steps)) ∷ test_places (at + length (print_line p)) ps

unfoldable pub tests_of : List Path → List ℕ
tests_of ps = padded 32 (test_places 0 ps)

-- the tables one behind the other: names, chains, rows, what is said of each path's steps, and where its test is
unfoldable pub tables_of : List Path → List ℕ
tables_of ps =
    joined
    (places_of ps
    ∷ lengths_of ps
    ∷ (chains_of (names_of ps)).head
    ∷ (chains_of (names_of ps)).next
    ∷ rows_of ps
    ∷ stays_of ps
    ∷ goes_of ps
    ∷ far_of ps
    ∷ lasts_of ps
    ∷ marks_of ps
    ∷ tests_of ps
    ∷ [])
