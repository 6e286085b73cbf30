-- Worked by computing: where each kind of step may stand; the path of the drawing in src/select.rt, `//a/b` at <a><a><b>, step by step; and
-- the three numbers of an answer, of which the name tests are no part.
use mathlib.Core.Path.{◌≡◌, refl}
use mathlib.Core.Bool.{Bool, true, false}
use mathlib.Core.List.{List, [], ◌∷◌}
use Prim.Native.Nat.{ℕ}
use lib.ListN.{get_or}
use Rattle.std.specs.Prelude.{Ok, Err}
use Rattle.xml.specs.Notation.{bytes}
use Rattle.paths.specs.declared.Kind.{Kind}
use Rattle.paths.specs.declared.Kind.TheVariants.{Child, Descendant, SelfStep, DescendantOrSelf}
use Rattle.refusals.specs.declared.CutError.TheVariants as errors
use Rattle.descent.specs.Places.{may_stand, passes_by, can_stand}
use Rattle.descent.specs.Answer.{without, number_of, second_of, third_of}

-- the step before can stand right above, or further above, or there
kinds : (may_stand Child true true false ≡ true) × (may_stand Child false true true ≡ false)
    × (may_stand Descendant false true false ≡ true)
    × (may_stand Descendant false false true ≡ false) × (may_stand SelfStep true true false ≡ false)
    × (may_stand SelfStep false false true ≡ true) × (may_stand DescendantOrSelf false true false ≡ true)
    × (may_stand DescendantOrSelf false false true ≡ true) × (may_stand DescendantOrSelf false false false ≡ false)
unfolding may_stand
kinds = (refl, refl, refl, refl, refl, refl, refl, refl, refl)

-- the places 1 to 3 that a step can have, by a test that stands in the list at a place
row : Kind → ℕ → ℕ → List Bool → List Bool
row k test len can = at 0 ∷ at 1 ∷ at 2 ∷ []
  where
    at : ℕ → Bool
    at = can_stand k (passes_by (bytes "//a/b\n") test len) (λ p. get_or (bytes "a" ∷ bytes "a" ∷ bytes "b" ∷ []) p []) can

drawing : (row Descendant 2 1 (true ∷ false ∷ false ∷ false ∷ []) ≡ true ∷ true ∷ false ∷ [])
    × (row Child 4 1 (false ∷ true ∷ true ∷ false ∷ []) ≡ false ∷ false ∷ true ∷ [])
unfolding may_stand row
drawing = (refl, refl)

numbers : (number_of (without (Ok (record { length = 21; selected = 1; tests = 3 }))) ≡ 0)
    × (second_of (without (Ok (record { length = 21; selected = 1; tests = 3 }))) ≡ 21)
    × (third_of (without (Ok (record { length = 21; selected = 1; tests = 3 }))) ≡ 1) × (number_of (without (Err (errors.Short 21))) ≡ 9)
    × (third_of (without (Err (errors.Short 21))) ≡ 0)
numbers = (refl, refl, refl, refl, refl)
