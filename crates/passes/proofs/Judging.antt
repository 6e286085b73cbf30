-- The verdict on an element by `judged`: where the steps of no path select it; where no path has a test; by those of the paths
-- whose steps select it whose tests it passes, its attributes being those of the bytes behind its name.
use mathlib.Core.Path.{◌≡◌, sym, ◌∙◌}
use mathlib.Core.Bool.{Bool, false}
use mathlib.Core.List.{List}
use Prim.Native.Nat.{ℕ, ◌+◌, ◌-◌}
use lib.ListN.{take, drop}
use Rattle.paths.specs.Judge.{list_paths}
use Rattle.attributes.specs.Held.{attributes_in}
use Rattle.matcher.specs.Picked.{passing_of, picked_by}
use Rattle.matcher.specs.Fit.{Serves}
use Rattle.matcher.specs.State.{verdict_by, selecting_by}
use Rattle.matcher.specs.declared.Verdict.{Verdict}
use Rattle.matcher.specs.declared.Verdict.TheVariants.{Unselected}
use Rattle.matcher.specs.declared.fit.Fit.{Fit}
use Rattle.matcher.specs.declared.state.MatchState.{MatchState}
use Rattle.tests.specs.Passing.{some_place}
use Rattle.tests.proofs.AnyTest.{any_untested}
use Rattle.passes.specs.ByTests.{ByTests, unselected, untested, tested}

module _ (list d : List ℕ) (at n h : ℕ) (m : MatchState) (f : Fit) where
  -- the verdict, by the attributes in the head of the tag at a place
  abbrev Judges : Verdict → Type 0
  Judges = ByTests (list_paths list) (attributes_in 0 (take (h - (at + 1 + n)) (drop (at + 1 + n) d))) m f

  pub judged_unselected : {w : Verdict} → w ≡ verdict_by m f → w ≡ Unselected → Judges w
  judged_unselected e u = unselected e u

  pub judged_untested : {t : List ℕ} → Serves list t → {w : Verdict} → w ≡ verdict_by m f → {b : Bool}
      → b ≡ some_place (take 32 (drop 18368 t)) → b ≡ false → Judges w
  judged_untested s e g y = untested e (any_untested s (sym y ∙ g))

  pub judged_tested : {g : Fit} → g ≡ f → {k : ℕ} → k ≡ selecting_by m g → {j : ℕ}
      → j ≡ passing_of (list_paths list) k (attributes_in 0 (take (h - (at + 1 + n)) (drop (at + 1 + n) d))) → {w : Verdict}
      → w ≡ picked_by g j
      → Judges w
  judged_tested eg ek ej ew = tested (rw eg at (rw (rw ek at ej) at ew))

pub ruleset judging = (judged_unselected, judged_untested, judged_tested)
