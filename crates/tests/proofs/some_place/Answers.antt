-- `some_place` meets its contract: it is the list's own test of any entry.
use mathlib.Core.Path.{refl}
use mathlib.Core.Bool.{not}
use borrow.Author.Rules.{rules}
use lib.Dec.{eqb}
use Rattle.std.proofs.lemmas.List.Recursion.{or_is}
use Rattle.tests.specs.Passing.{some_place}
use Rattle.tests.proofs.some_place.Goals as goal

pub returns : goal.returns
returns c =
    or_is some_place (λ x. not (eqb x 0)) refl (λ _ _. refl) c.args.places.now 0 c.any.result (λ h. search rules) (λ h. search rules)
