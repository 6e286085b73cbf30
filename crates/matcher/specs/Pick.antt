-- What a path picks: an element that its steps select and that passes the attribute test of the path's last step, if it has one. The
-- matcher knows the element's attributes by name and normal value alone. First the meaning, then a test of it.
use Rattle.std.specs.Prelude.{Bool, true, ◌&&◌, List, ℕ}
use Rattle.std.proofs.Math.Option.{Option, none, some}
use Rattle.paths.specs.Path.{AttributeTest, Path}
use Rattle.attributes.specs.Attribute.{Attribute, Has}
use Rattle.attributes.specs.Held.{has_attribute}
use Rattle.matcher.specs.Select.{Selects}
use Rattle.matcher.specs.Test.{selects}

-- "The element passes if it has that attribute and the value .. equals it byte for byte"; an absent attribute never passes
abbrev pub PassesTest : Option AttributeTest → List Attribute → Type 0
PassesTest none xs = Unit {0}
PassesTest (some a) xs = Has a.name a.value xs

abbrev pub Picks : Path → List (List ℕ) → List Attribute → Type 0
Picks p names xs = Selects p.steps names × PassesTest p.test xs

-- ---- computed

abbrev pub passes_test : Option AttributeTest → List Attribute → Bool
passes_test none xs = true
passes_test (some a) xs = has_attribute xs a.name a.value

abbrev pub picks : Path → List (List ℕ) → List Attribute → Bool
picks p names xs = passes_test p.test xs && selects p.steps names
