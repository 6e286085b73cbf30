-- The cut of a document by a list, the number of elements selected, and the number of name tests tried. A refused list has no paths; what
-- is refused is said elsewhere. The verdict on an element is the matcher's, on the names from the root down to it and its attributes; so is
-- the number of name tests tried there, which crates/demands shows to be that of document 02's words.
use Rattle.std.specs.Prelude.{List, [], ◌∷◌, ◌++◌, ℕ}
use Rattle.xml.specs.Forest.{Name, render}
use Rattle.paths.specs.Path.{Path}
use Rattle.paths.specs.Judge.{list_paths}
use Rattle.matcher.specs.Says.{verdict_of}
use Rattle.matcher.specs.Fit.{fit_for}
use Rattle.matcher.specs.State.{state_of, tests_by}
use Rattle.trees.specs.Cut.{Judge, cut, count, tally}
use Rattle.trees.specs.Grown.{forest_of}

-- names from the root down
abbrev pub root_first : List Name → List Name
root_first [] = []
root_first (n ∷ up) = root_first up ++ n ∷ []

unfoldable pub verdicts : List Path → Judge
verdicts ps up xs = verdict_of ps (root_first up) xs

unfoldable pub cut_of : List ℕ → List ℕ → List ℕ
cut_of list d = render (cut (verdicts (list_paths list)) [] (forest_of d))

unfoldable pub count_of : List ℕ → List ℕ → ℕ
count_of list d = count (verdicts (list_paths list)) [] (forest_of d)

-- at the element of these names
unfoldable pub name_tests : List Path → List Name → ℕ
name_tests ps [] = 0
name_tests ps (n ∷ up) = tests_by (state_of ps (root_first up)) (fit_for ps n)

unfoldable pub tests_of : List ℕ → List ℕ → ℕ
tests_of list d = tally (name_tests (list_paths list)) [] (forest_of d)
