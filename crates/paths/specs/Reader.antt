-- The reader of a list, on what is left of it: executable definitions, each of which gives back what was printed. In order: any number of
-- things, one after another; a step; a line's test; its end; a line. proofs/Steps.antt, proofs/Attributes.antt and proofs/Lines.antt show
-- that they give back what was printed.
use Rattle.std.specs.Prelude.{Bool, true, false, cond, ◌||◌, List, [], ◌∷◌, ◌++◌, ℕ, zero, suc, pred, ◌-◌, length, take, drop}
use Rattle.std.proofs.Math.Option.{Option, none, some}
use Rattle.xml.specs.Notation.{bytes}
use Rattle.xml.specs.Character.{begins, run}
use Rattle.chars.specs.Name.{name_of}
use Rattle.paths.specs.Path.{Test, any, named, Step, AttributeTest, Path, print_kind, print_step, print_attribute, print_mark, is_value}
use Rattle.paths.specs.declared.Kind.{Kind}
use Rattle.paths.specs.declared.Kind.TheVariants.{Child, Descendant, SelfStep, DescendantOrSelf}

-- ---- things at the front of some bytes, and what is left

pub record Run (A : Type 0) : Type 0 where
  pub all : List A
  pub rest : List ℕ

abbrev pub cons : {A : Type 0} → A → Run A → Run A
cons x r = record { all = x ∷ r.all; rest = r.rest }

-- what was found at the front of s, and then what comes after its bytes
abbrev pub next : {A : Type 0} → (A → List ℕ) → Option A → List ℕ → (ℕ → Run A) → Run A
next print none s later = record { all = []; rest = s }
next print (some x) s later = cons x (later (pred (length (print x))))

-- all that `read` finds, one after another, once k bytes are passed
unfoldable pub read_all : {A : Type 0} → (A → List ℕ) → (List ℕ → Option A) → ℕ → List ℕ → Run A
read_all print read k [] = record { all = []; rest = [] }
read_all print read (suc k) (b ∷ s) = read_all print read k s
read_all print read zero (b ∷ s) = next print (read (b ∷ s)) (b ∷ s) (λ k. read_all print read k s)

-- ---- a step: what its kind prints as, then `*` or the longest name

-- what begins with `/` and more of a kind is no child step: no name begins with a slash, and the others would be names with two colons
unfoldable pub kind_at : List ℕ → Option Kind
kind_at s =
    cond (begins (bytes "//") s) (some Descendant)
    (cond (begins (bytes "/self::") s) (some SelfStep)
    (cond (begins (bytes "/descendant-or-self::") s) (some DescendantOrSelf)
    (cond (begins (bytes "/") s) (some Child) none)))

-- two colons side by side
abbrev pub two_colons : List ℕ → Bool
two_colons [] = false
two_colons (b ∷ s) = begins (bytes "::") (b ∷ s) || two_colons s

-- the name n, which may not have them
abbrev pub name_only : List ℕ → Option Test
name_only n = cond (two_colons n) none (some (named n))

-- what stands in s before t, its end
abbrev pub before : List ℕ → List ℕ → List ℕ
before s t = take (length s - length t) s

-- the name that stands in s before t
abbrev pub name_before : List ℕ → Option (List ℕ) → Option Test
name_before s none = none
name_before s (some t) = name_only (before s t)

unfoldable pub test_at : List ℕ → Option Test
test_at s = cond (begins (bytes "*") s) (some any) (name_before s (name_of s))

abbrev pub with_kind : Kind → Option Test → Option Step
with_kind k none = none
with_kind k (some x) = some (record { kind = k; test = x })

abbrev pub with_test : List ℕ → Option Kind → Option Step
with_test s none = none
with_test s (some k) = with_kind k (test_at (drop (length (print_kind k)) s))

unfoldable pub step_at : List ℕ → Option Step
step_at s = with_test s (kind_at s)

unfoldable pub steps : List ℕ → Run Step
steps = read_all print_step step_at 0

-- ---- a line's test: a name, and the longest value

-- the name n, and the value that stands in s before t
abbrev pub with_value : List ℕ → List ℕ → List ℕ → Option AttributeTest
with_value n s t = cond (begins (bytes "\"]") t) (some (record { name = n; value = before s t })) none

-- the name that stands in s before t
abbrev pub with_name : List ℕ → Option (List ℕ) → Option AttributeTest
with_name s none = none
with_name s (some t) = cond (begins (bytes "=\"") t) (with_value (before s t) (drop 2 t) (run is_value 0 (drop 2 t))) none

unfoldable pub attribute_at : List ℕ → Option AttributeTest
attribute_at s = cond (begins (bytes "[@") s) (with_name (drop 2 s) (name_of (drop 2 s))) none

-- ---- a line's end: its test or none, the mark or none, LF

pub record Ending : Type 0 where
  pub test : Option AttributeTest
  pub marked : Bool

abbrev pub ending_of : Path → Ending
ending_of p = record { test = p.test; marked = p.marked }

abbrev pub print_end : Ending → List ℕ
print_end e = print_attribute e.test ++ (print_mark e.marked ++ bytes "\n")

unfoldable pub mark_at : List ℕ → Option Bool
mark_at s = cond (begins (bytes " #\n") s) (some true) (cond (begins (bytes "\n") s) (some false) none)

abbrev pub with_mark : Option AttributeTest → Option Bool → Option Ending
with_mark x none = none
with_mark x (some m) = some (record { test = x; marked = m })

-- behind the test x, which stands at the front of s: where there is none, at the front
abbrev pub behind : List ℕ → Option AttributeTest → Option Ending
behind s x = with_mark x (mark_at (drop (length (print_attribute x)) s))

unfoldable pub end_at : List ℕ → Option Ending
end_at s = behind s (attribute_at s)

-- ---- a line: one step or more, and its end

abbrev pub path_of : List Step → Ending → Path
path_of xs e = record { steps = xs; test = e.test; marked = e.marked }

abbrev pub with_end : List Step → Option Ending → Option Path
with_end [] e = none
with_end (x ∷ xs) none = none
with_end (x ∷ xs) (some e) = some (path_of (x ∷ xs) e)

unfoldable pub line_at : List ℕ → Option Path
line_at s = with_end (steps s).all (end_at (steps s).rest)
