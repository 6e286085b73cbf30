-- Tests that decide what specs/Cover.antt says, in the same order: whether a step may go to another, whether paths are the same, whether a
-- path covers another, whether every path of a list is covered. proofs/Deciding.antt shows that they decide it.
use Rattle.std.specs.Prelude.{Bool, true, false, cond, not, ◌&&◌, ◌||◌, List, [], ◌∷◌, ℕ, eqb}
use Rattle.std.proofs.Math.Option.{Option, none, some}
use Rattle.xml.specs.Productions.{same}
use Rattle.paths.specs.Path.{Test, any, named, Step, AttributeTest, Path}
use Rattle.paths.specs.declared.Kind.{Kind}
use Rattle.paths.specs.declared.Kind.TheVariants.{Child, Descendant, SelfStep, DescendantOrSelf}
use Rattle.matcher.specs.Test.{lays}
use Rattle.matcher.specs.Says.{some as any_of}
use Rattle.covers.specs.Cover.{plain}

-- ---- a step

abbrev pub is_child : Kind → Bool
is_child Child = true
is_child Descendant = false
is_child SelfStep = false
is_child DescendantOrSelf = false

abbrev pub wider : Test → Test → Bool
wider any t = true
wider (named m) any = false
wider (named m) (named n) = same m n

abbrev pub sends_to : Step → Step → Bool
sends_to s t = (not (is_child s.kind) || is_child t.kind) && wider s.test t.test

-- ---- the same

-- the number of a kind in document 02's packed list
abbrev pub kind_number : Kind → ℕ
kind_number Child = 0
kind_number Descendant = 1
kind_number SelfStep = 2
kind_number DescendantOrSelf = 3

abbrev pub same_test : Test → Test → Bool
same_test any any = true
same_test any (named n) = false
same_test (named m) any = false
same_test (named m) (named n) = same m n

abbrev pub same_step : Step → Step → Bool
same_step s t = eqb (kind_number s.kind) (kind_number t.kind) && same_test s.test t.test

abbrev pub same_steps : List Step → List Step → Bool
same_steps [] [] = true
same_steps [] (t ∷ ts) = false
same_steps (s ∷ ss) [] = false
same_steps (s ∷ ss) (t ∷ ts) = same_step s t && same_steps ss ts

abbrev pub same_attribute : Option AttributeTest → Option AttributeTest → Bool
same_attribute none none = true
same_attribute none (some y) = false
same_attribute (some x) none = false
same_attribute (some x) (some y) = same x.name y.name && same x.value y.value

abbrev pub same_path : Path → Path → Bool
same_path b a = same_steps b.steps a.steps && same_attribute b.test a.test

-- ---- covering

abbrev pub test_for : Option AttributeTest → Option AttributeTest → Bool
test_for none a = true
test_for (some x) a = same_attribute (some x) a

unfoldable pub covers : Path → Path → Bool
covers b a =
    cond (plain b.steps && plain a.steps) (lays sends_to a.steps b.steps && test_for b.test a.test) (same_path b a)

-- ---- lists

unfoldable pub stands_for : Path → Path → Bool
stands_for p q = covers q p && (not p.marked || q.marked)

abbrev pub every : {A : Type 0} → (A → Bool) → List A → Bool
every f [] = true
every f (x ∷ xs) = f x && every f xs

unfoldable pub covered : List Path → List Path → Bool
covered ns ws = every (λ p. any_of (λ q. stands_for p q) ws) ns
