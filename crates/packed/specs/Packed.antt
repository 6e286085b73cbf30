-- The packed form of a list by printing: from the same data as its text, as the sentence of document 02, Q-7, has it. In order: a step; an
-- attribute test; a line; a list; and the packed form of a text, which a sound one alone has.
use Rattle.std.specs.Prelude.{◌≡◌, Bool, true, false, List, [], ◌∷◌, ◌++◌, ℕ, ◌/◌, ◌%◌, length, Ok}
use Rattle.std.proofs.Math.Option.{Option, none, some}
use Rattle.paths.specs.Path.{Test, any, named, Step, AttributeTest, Path, print_all}
use Rattle.paths.specs.Judge.{list_answer, list_paths}
use Rattle.paths.specs.declared.Kind.{Kind}
use Rattle.paths.specs.declared.Kind.TheVariants.{Child, Descendant, SelfStep, DescendantOrSelf}

-- "for each step its kind (0 child, 1 descendant, 2 self, 3 descendant-or-self)"
abbrev pub pack_kind : Kind → ℕ
pack_kind Child = 0
pack_kind Descendant = 1
pack_kind SelfStep = 2
pack_kind DescendantOrSelf = 3

-- "a name length where 0 means `*`, and the name"
abbrev pub pack_test : Test → List ℕ
pack_test any = 0 ∷ []
pack_test (named n) = length n ∷ n

unfoldable pub pack_step : Step → List ℕ
pack_step s = pack_kind s.kind ∷ pack_test s.test

-- "last the attribute name's length, 0 for no test, and if not 0 the name, the value's length and the value"
abbrev pub pack_attribute : Option AttributeTest → List ℕ
pack_attribute none = 0 ∷ []
pack_attribute (some x) = length x.name ∷ (x.name ++ length x.value ∷ x.value)

-- "a mark byte 0 or 1"
abbrev pub pack_mark : Bool → ℕ
pack_mark false = 0
pack_mark true = 1

-- "a mark byte 0 or 1, the number of steps, for each step .., last .."
unfoldable pub pack_record : Path → List ℕ
pack_record p = pack_mark p.marked ∷ length p.steps ∷ (print_all pack_step p.steps ++ pack_attribute p.test)

-- two bytes, the more significant first
abbrev pub big_endian : ℕ → List ℕ
big_endian n = n / 256 ∷ n % 256 ∷ []

-- "for each line a two-byte big-endian length of what follows", the two bytes themselves not counted
unfoldable pub pack_line : Path → List ℕ
pack_line p = big_endian (length (pack_record p)) ++ pack_record p

-- "version byte 1, then for each line"
unfoldable pub pack_list : List Path → List ℕ
pack_list ps = 1 ∷ print_all pack_line ps

-- the packed form of a text that is a sound list
unfoldable pub pack_of : List ℕ → List ℕ
pack_of s = pack_list (list_paths s)

-- "the packed form of .. [a] sound text list": d is the packed form of the text s
pub record PackedForm (d s : List ℕ) : Type 0 where
  pub sound : list_answer s ≡ Ok tt
  pub packs : d ≡ pack_of s

-- "its input is the packed form of no sound text list"
abbrev pub NoPackedForm : List ℕ → Type 0
NoPackedForm d = (s : List ℕ) → PackedForm d s → ⊥
