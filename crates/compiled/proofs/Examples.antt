-- Worked examples of the compiled tables, computed: a list of four paths, the steps that stay, go and go far, the last steps, the marks and
-- the tests, its distinct names with their places, and what names pass. Expected values are written from the words of documents 01 and 02,
-- bit j for step j + 1.
use mathlib.Core.Path.{◌≡◌, refl}
use mathlib.Core.Bool.{true, false}
use mathlib.Core.List.{List, [], ◌∷◌, map}
use mathlib.Core.Option.{none, some}
use lib.ListN.{take}
use Rattle.xml.specs.Notation.{bytes}
use Rattle.paths.specs.Path.{Test, any, named, Step, Path, print_step, print_line, print_list}
use Rattle.paths.specs.declared.Kind.TheVariants.{Child, Descendant, SelfStep, DescendantOrSelf}
use Rattle.compiled.specs.Bits.{column, stays_of, goes_of, far_of, lasts_of, marks_of, fit_of, other_fit}
use Rattle.compiled.specs.Compiled.{tests_of}
use Rattle.lookup.specs.Names.{names_of, place_of}
use Rattle.lookup.specs.Index.{padded}

abbrev child : Test → Step
child x = record { kind = Child; test = x }

abbrev descendant : Test → Step
descendant x = record { kind = Descendant; test = x }

abbrev self : Test → Step
self x = record { kind = SelfStep; test = x }

abbrev or_self : Test → Step
or_self x = record { kind = DescendantOrSelf; test = x }

-- /g//v, //*/v marked, //n with a test, /*/self::g/descendant-or-self::n with a test, marked
abbrev four : List Path
four =
    record { steps = child (named (bytes "g")) ∷ descendant (named (bytes "v")) ∷ []; test = none; marked = false }
    ∷ record { steps = descendant any ∷ child (named (bytes "v")) ∷ []; test = none; marked = true }
    ∷ record { steps = descendant (named (bytes "n")) ∷ []; test = some (record { name = bytes "k"; value = bytes "v" }); marked = false }
    ∷ record {
      steps = child any ∷ self (named (bytes "g")) ∷ or_self (named (bytes "n")) ∷ [];
      test = some (record { name = bytes "k"; value = [] });
      marked = true;
    }
    ∷ []

pub prints : print_list four ≡ bytes "/g//v\n//*/v #\n//n[@k=\"v\"]\n/*/self::g/descendant-or-self::n[@k=\"\"] #\n"
unfolding print_list print_line print_step
prints = refl

-- the first five of 32
pub stays : take 5 (stays_of four) ≡ 0 ∷ 0 ∷ 0 ∷ 6 ∷ 0 ∷ []
unfolding stays_of column padded
stays = refl

pub goes : take 5 (goes_of four) ≡ 3 ∷ 3 ∷ 1 ∷ 5 ∷ 0 ∷ []
unfolding goes_of column padded
goes = refl

pub far : take 5 (far_of four) ≡ 2 ∷ 1 ∷ 1 ∷ 4 ∷ 0 ∷ []
unfolding far_of column padded
far = refl

pub lasts : take 5 (lasts_of four) ≡ 2 ∷ 2 ∷ 1 ∷ 4 ∷ 0 ∷ []
unfolding lasts_of column padded
lasts = refl

pub marks : take 5 (marks_of four) ≡ 0 ∷ 2 ∷ 0 ∷ 4 ∷ 0 ∷ []
unfolding marks_of column padded
marks = refl

-- the lines begin at 0, 6, 14 and 26; the third has steps of 3 bytes, and the fourth of 32
pub tests : take 5 (tests_of four) ≡ 0 ∷ 0 ∷ 17 ∷ 58 ∷ 0 ∷ []
unfolding tests_of padded print_line print_step
tests = refl

-- g at 1, v at 4 for the first time, n at 16
pub names : map (λ x. x.name) (names_of four) ≡ bytes "g" ∷ bytes "v" ∷ bytes "n" ∷ []
unfolding names_of print_line print_step
names = refl

pub places : map (λ x. x.place) (names_of four) ≡ 1 ∷ 4 ∷ 16 ∷ []
unfolding names_of print_line print_step
places = refl

pub found : map (place_of (names_of four)) (bytes "g" ∷ bytes "v" ∷ bytes "n" ∷ bytes "x" ∷ []) ≡ 1 ∷ 2 ∷ 3 ∷ 0 ∷ []
unfolding names_of print_line print_step
found = refl

-- v passes the last steps of two paths and each `*`; x, which no step has, passes `*` alone
pub fits : take 5 (fit_of four (bytes "v")) ≡ 2 ∷ 3 ∷ 0 ∷ 1 ∷ 0 ∷ []
unfolding fit_of column padded
fits = refl

pub fits_none : take 5 (fit_of four (bytes "x")) ≡ 0 ∷ 1 ∷ 0 ∷ 1 ∷ 0 ∷ []
unfolding fit_of column padded
fits_none = refl

pub fits_other : take 5 (other_fit four) ≡ 0 ∷ 1 ∷ 0 ∷ 1 ∷ 0 ∷ []
unfolding other_fit column padded
fits_other = refl
