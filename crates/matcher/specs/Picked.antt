-- The verdict by bits: of the paths whose steps select an element, bit p for path p, those whose attribute test it passes, `passing_of`;
-- and what an element's fit says of it by these bits, `picked_by`. That this is the verdict of specs/Says.antt is shown in
-- proofs/Verdicts.antt. Then lists without a test, for which no attribute is looked at.
use Rattle.std.specs.Prelude.{◌≡◌, Bool, false, ◌&&◌, ◌||◌, List, [], ◌∷◌, ℕ, ◌+◌, ◌*◌, ◌/◌, ◌%◌, eqb}
use Rattle.std.proofs.Math.Option.{none}
use Rattle.paths.specs.Path.{Path, All}
use Rattle.attributes.specs.Attribute.{Attribute}
use Rattle.compiled.specs.Bits.{bit}
use Rattle.matcher.specs.Pick.{passes_test}
use Rattle.matcher.specs.Says.{decided}
use Rattle.matcher.specs.State.{nonzero}
use Rattle.matcher.specs.declared.Verdict.{Verdict}
use Rattle.matcher.specs.declared.fit.Fit.{Fit}

-- the lowest bit
abbrev pub odd : ℕ → Bool
odd x = eqb (x % 2) 1

-- the bits of paths whose test is passed; bits past the last path are left out
unfoldable pub passing_of : List Path → ℕ → List Attribute → ℕ
passing_of [] selecting xs = 0
passing_of (p ∷ ps) selecting xs = bit (passes_test p.test xs && odd selecting) + 2 * passing_of ps (selecting / 2) xs

-- whether a bit is set where the column has another number than 0
abbrev pub some_set : List ℕ → ℕ → Bool
some_set [] bits = false
some_set (x ∷ xs) bits = (nonzero x && odd bits) || some_set xs (bits / 2)

-- by whether the bit of a marked path is set, and whether any is
unfoldable pub picked_by : Fit → ℕ → Verdict
picked_by f passing = decided (some_set f.marks passing) (nonzero passing)

abbrev pub Untested : List Path → Type 0
Untested ps = All (λ p. p.test ≡ none) ps
