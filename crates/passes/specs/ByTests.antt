-- Three ways to the verdict on an element: no path's steps select it; no path has a test; by those of the paths whose steps select it whose
-- tests it passes. `xs` are its attributes. That each is the list's verdict is shown in proofs/Passing.antt.
use Rattle.std.specs.Prelude.{◌≡◌, List}
use Rattle.paths.specs.Path.{Path}
use Rattle.attributes.specs.Attribute.{Attribute}
use Rattle.matcher.specs.Picked.{passing_of, picked_by, Untested}
use Rattle.matcher.specs.State.{verdict_by, selecting_by}
use Rattle.matcher.specs.declared.Verdict.{Verdict}
use Rattle.matcher.specs.declared.Verdict.TheVariants.{Unselected}
use Rattle.matcher.specs.declared.fit.Fit.{Fit}
use Rattle.matcher.specs.declared.state.MatchState.{MatchState}

pub data ByTests (ps : List Path) (xs : List Attribute) (m : MatchState) (f : Fit) (w : Verdict) : Type 0 where
  unselected : w ≡ verdict_by m f → w ≡ Unselected → ByTests ps xs m f w
  untested : w ≡ verdict_by m f → Untested ps → ByTests ps xs m f w
  tested : w ≡ picked_by f (passing_of ps (selecting_by m f) xs) → ByTests ps xs m f w
