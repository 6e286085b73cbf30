-- When one list of paths is within another: "every path of the narrow list stands in the wide list, marked there if it is marked in the
-- narrow one", "a path being the same only with the same test". A list within another is covered by it, and this is enough for demand 3:
-- see `Covered` of the crate `covers`, and `within_covered` of proofs/Narrow.antt.
use Rattle.std.specs.Prelude.{◌≡◌, true, List}
use Rattle.paths.specs.Path.{Path, All}
use Rattle.matcher.specs.Says.{Some}

-- p stands in the wide list as q
pub record StandsAs (p q : Path) : Type 0 where
  pub steps_same : q.steps ≡ p.steps
  pub test_same : q.test ≡ p.test
  pub marked_too : p.marked ≡ true → q.marked ≡ true

abbrev pub Within : List Path → List Path → Type 0
Within ns ws = All (λ p. Some (λ q. StandsAs p q) ws) ns
