-- Whether a list has a test, by its paths and by their places in the tables; and what each path passes, where a path without a test is
-- passed, and one that is not there is not.
use Rattle.std.specs.Prelude.{Bool, true, false, not, ◌||◌, List, [], ◌∷◌, map, ℕ, eqb, get_or}
use Rattle.std.proofs.Math.Option.{Option, none, some}
use Rattle.paths.specs.Path.{AttributeTest, Path}
use Rattle.attributes.specs.Attribute.{Attribute}
use Rattle.matcher.specs.Pick.{passes_test}

abbrev pub is_test : Option AttributeTest → Bool
is_test none = false
is_test (some x) = true

abbrev pub any_test : List Path → Bool
any_test [] = false
any_test (p ∷ ps) = is_test p.test || any_test ps

-- one that is not 0
abbrev pub some_place : List ℕ → Bool
some_place [] = false
some_place (x ∷ xs) = not (eqb x 0) || some_place xs

-- for each path, whether its test is passed
abbrev pub results : List Path → List Attribute → List Bool
results ps xs = map (λ p. passes_test p.test xs) ps

unfoldable pub passes_at : List Path → List Attribute → ℕ → Bool
passes_at ps xs p = get_or (results ps xs) p false
