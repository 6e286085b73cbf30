-- What is said of an element line by line. In order: the line at a place; the test of a line; the list's verdict, as this crate names it.
use Rattle.std.specs.Prelude.{◌≡◌, Bool, true, cond, List, ℕ, ◌≤◌, eqb, length, drop}
use Rattle.paths.specs.Reader.{steps}
use Rattle.tags.specs.Kept.{name_from}
use Rattle.attributes.specs.Attribute.{Attribute}
use Rattle.attributes.specs.Held.{has_attribute}
use Rattle.matcher.specs.Test.{selects}
use Rattle.matcher.specs.declared.Verdict.{Verdict}
use Rattle.matcher.specs.declared.Verdict.TheVariants.{Unselected, Selected, Marked}
use Rattle.descent.specs.declared.select.Verdict.{Verdict as Said}
use Rattle.descent.specs.declared.select.Verdict.TheVariants as said

-- whether the steps of the line at a place select the element of these names, and where they end
pub record LineIs (list : List ℕ) (at : ℕ) (names : List (List ℕ)) (r : Bool) (end : ℕ) : Type 0 where
  pub selects_is : r ≡ selects (steps (drop at list)).all names
  pub rest_is : (steps (drop at list)).rest ≡ drop end list
  pub begun : at ≤ end
  pub inside : end ≤ length list

-- by the places and lengths of the name and the value of a test; a name of no bytes is no test
abbrev pub passes_test_by : List ℕ → ℕ → ℕ → ℕ → ℕ → List Attribute → Bool
passes_test_by list name len value size xs =
    cond (eqb len 0) true (has_attribute xs (name_from list name len) (name_from list value size))

-- a verdict in the matcher's words
abbrev pub verdict_by : Said → Verdict
verdict_by said.Unselected = Unselected
verdict_by said.Selected = Selected
verdict_by said.Marked = Marked
