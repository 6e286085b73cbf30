-- What the kinds of step share: three tests of a kind. All that is said of a step's place beside its kind's name goes over these; that they
-- say of a place what the kind does is shown in the crate `matcher`, proofs/Moving.antt.
use Rattle.std.specs.Prelude.{Bool, true, false}
use Rattle.paths.specs.declared.Kind.{Kind}
use Rattle.paths.specs.declared.Kind.TheVariants.{Child, Descendant, SelfStep, DescendantOrSelf}

-- may a step take the place of the step before?
abbrev pub stays : Kind → Bool
stays Child = false
stays Descendant = false
stays SelfStep = true
stays DescendantOrSelf = true

-- may it take a place below?
abbrev pub goes : Kind → Bool
goes Child = true
goes Descendant = true
goes SelfStep = false
goes DescendantOrSelf = true

-- and one further down than right below?
abbrev pub far : Kind → Bool
far Child = false
far Descendant = true
far SelfStep = false
far DescendantOrSelf = true
