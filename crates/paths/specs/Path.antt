-- A path list by printing: what a list says is data, and its bytes are what that data prints as. In order: steps, paths and lists; what
-- each prints as; which data is a path; sizes. Where a sentence of document 02 changes one of document 01, it is quoted.
use Rattle.std.specs.Prelude.{◌≡◌, Bool, true, false, ◌&&◌, List, [], ◌∷◌, ◌++◌, ℕ, ◌≤◌, ◌<◌, leb, length}
use Rattle.std.proofs.Math.Option.{Option, none as nothing, some as just}
use Rattle.xml.specs.Notation.{bytes, char, ◌∗}
use Rattle.xml.specs.Productions.{Name, except}
use Rattle.xml.specs.Language.{Language}
use Rattle.paths.specs.declared.Kind.{Kind}
use Rattle.paths.specs.declared.Kind.TheVariants.{Child, Descendant, SelfStep, DescendantOrSelf}

-- `*`, or a name
pub data Test : Type 0 where
  any : Test
  named : List ℕ → Test

pub record Step : Type 0 where
  pub kind : Kind
  pub test : Test

-- an attribute's name, and the value that it has to have
pub record AttributeTest : Type 0 where
  pub name : List ℕ
  pub value : List ℕ

-- "The last step of a line, and only the last, may carry one such test, before the space and #": so a path has it, and no step
pub record Path : Type 0 where
  pub steps : List Step
  pub test : Option AttributeTest
  pub marked : Bool

-- ---- what each prints as

-- "Add `/self::` and `/descendant-or-self::` before a test."
abbrev pub print_kind : Kind → List ℕ
print_kind Child = bytes "/"
print_kind Descendant = bytes "//"
print_kind SelfStep = bytes "/self::"
print_kind DescendantOrSelf = bytes "/descendant-or-self::"

abbrev pub print_test : Test → List ℕ
print_test any = bytes "*"
print_test (named n) = n

unfoldable pub print_step : Step → List ℕ
print_step s = print_kind s.kind ++ print_test s.test

abbrev pub print_all : {A : Type 0} → (A → List ℕ) → List A → List ℕ
print_all print [] = []
print_all print (x ∷ xs) = print x ++ print_all print xs

abbrev pub print_mark : Bool → List ℕ
print_mark true = bytes " #"
print_mark false = []

-- `//place[@type="village"]`: what stands behind the last step
abbrev pub print_attribute : Option AttributeTest → List ℕ
print_attribute nothing = []
print_attribute (just x) = bytes "[@" ++ x.name ++ bytes "=\"" ++ x.value ++ bytes "\"]"

-- a line, with its LF
unfoldable pub print_line : Path → List ℕ
print_line p = print_all print_step p.steps ++ print_attribute p.test ++ print_mark p.marked ++ bytes "\n"

unfoldable pub print_list : List Path → List ℕ
print_list = print_all print_line

-- ---- which data is a path: one step or more, each name of a step a Name of [5] without two colons side by side, and a sound test

pub record TwoColons (n : List ℕ) : Type 0 where
  pub before : List ℕ
  pub after : List ℕ
  pub is : n ≡ before ++ bytes "::" ++ after

-- "any other name test with two colons side by side is 2 from now on": it is in no path, so no path prints as its line
pub record ProperName (n : List ℕ) : Type 0 where
  pub name : Language Name n
  pub apart : TwoColons n → ⊥

abbrev pub ProperTest : Test → Type 0
ProperTest any = Unit {0}
ProperTest (named n) = ProperName n

pub record Proper (s : Step) : Type 0 where
  pub test : ProperTest s.test

-- "The value has 0 to 255 bytes, is UTF-8 of Char, and has no `"`, `<`, `&` or character below U+0020."
unfoldable pub is_value : ℕ → Bool
is_value c = leb 0x20 c && except "\"<&" c

-- a Name of [5]: "name test" is said of steps, so two colons may stand in it
pub record ProperAttribute (x : AttributeTest) : Type 0 where
  pub name : Language Name x.name
  pub value : Language (char is_value ∗) x.value

-- what holds of a line's test, if it has one
abbrev pub IfAny : (AttributeTest → Type 0) → Option AttributeTest → Type 0
IfAny P nothing = Unit {0}
IfAny P (just x) = P x

pub data All {A : Type 0} (P : A → Type 0) : List A → Type 0 where
  none : All P []
  more : {x : A} {xs : List A} → P x → All P xs → All P (x ∷ xs)

pub record IsPath (p : Path) : Type 0 where
  pub some : 0 < length p.steps
  pub each : All Proper p.steps
  pub test : IfAny ProperAttribute p.test

-- ---- sizes: 16 steps a line, names of 255 bytes, in which what stands before the name does not count

abbrev pub test_size : Test → ℕ
test_size any = 0
test_size (named n) = length n

-- "a name or value over 255 bytes is 3"
pub record SmallAttribute (x : AttributeTest) : Type 0 where
  pub name : length x.name ≤ 255
  pub value : length x.value ≤ 255

pub record Within (p : Path) : Type 0 where
  pub steps : length p.steps ≤ 16
  pub names : All (λ s. test_size s.test ≤ 255) p.steps
  pub test : IfAny SmallAttribute p.test

-- a path that a sound list may have
pub record Good (p : Path) : Type 0 where
  pub path : IsPath p
  pub within : Within p
