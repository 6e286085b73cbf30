-- When a path covers another, as document 02 words it, and when each path of a list is covered by one of another list. b's steps are sent
-- to a's steps as the steps of a path are laid on names: step i of a is place i. In order: where one step may go; a sending; attribute
-- tests; covering; lists.
use Rattle.std.specs.Prelude.{◌≡◌, Bool, true, false, ◌&&◌, List, [], ◌∷◌, length}
use Rattle.std.proofs.Math.Option.{Option, none, some}
use Rattle.paths.specs.Path.{Test, any, named, Step, AttributeTest, Path, All}
use Rattle.paths.specs.declared.Kind.{Kind}
use Rattle.paths.specs.declared.Kind.TheVariants.{Child, Descendant, SelfStep, DescendantOrSelf}
use Rattle.matcher.specs.Select.{Reaches}
use Rattle.matcher.specs.Says.{Some}

-- "each test of b being `*` or the same name test": so a `*` of a is met by `*` only
abbrev pub Wider : Test → Test → Type 0
Wider any t = Unit {0}
Wider (named m) any = ⊥
Wider (named m) (named n) = m ≡ n

-- the step s of b may go to the step t of a: "a child step of b must go to a child step of a"
pub record SendsTo (s t : Step) : Type 0 where
  pub child : s.kind ≡ Child → t.kind ≡ Child
  pub test : Wider s.test t.test

-- "b's steps can be sent to a's steps in rising order, last to last"; a child step goes "right after the one before (the first to a's
-- first); a descendant step to any later one": these are the places that `Below` gives to child and descendant steps
abbrev pub Sent : List Step → List Step → Type 0
Sent b a = Reaches SendsTo a b (length a)

-- "b must have no attribute test or the same one"
abbrev pub TestFor : Option AttributeTest → Option AttributeTest → Type 0
TestFor none a = Unit {0}
TestFor (some x) a = some x ≡ a

-- "a self or descendant-or-self step": this is neither
abbrev pub is_plain : Kind → Bool
is_plain Child = true
is_plain Descendant = true
is_plain SelfStep = false
is_plain DescendantOrSelf = false

-- a path without such a step
abbrev pub plain : List Step → Bool
plain [] = true
plain (s ∷ ss) = is_plain s.kind && plain ss

-- "the same path": the kinds and tests of its steps, and its attribute test; the mark is asked for on its own
pub record SamePath (b a : Path) : Type 0 where
  pub steps : b.steps ≡ a.steps
  pub test : b.test ≡ a.test

-- "A path with a self or descendant-or-self step covers only the same path, and only the same path covers it. For all other pairs b covers
-- a exactly when such a sending exists and b has no attribute test or the same one."
pub data Covers (b a : Path) : Type 0 where
  sent : plain b.steps && plain a.steps ≡ true → Sent b.steps a.steps → TestFor b.test a.test → Covers b a
  same : plain b.steps && plain a.steps ≡ false → SamePath b a → Covers b a

-- "each narrow path is covered by a wide one, marked if the narrow is": q stands for p
pub record StandsFor (p q : Path) : Type 0 where
  pub covered : Covers q p
  pub marked_too : p.marked ≡ true → q.marked ≡ true

abbrev pub Covered : List Path → List Path → Type 0
Covered ns ws = All (λ p. Some (λ q. StandsFor p q) ws) ns
