-- Worked examples, a table under one statement: lists, elements by the names from the root down, and the verdicts by documents 01 and 02.
-- antt computes the verdicts by states, fits and bits (`computed`), and so each is the one that matcher/specs/Says says (`meant`). The
-- elements have no attributes.
use mathlib.Core.Path.{◌≡◌, refl}
use mathlib.Core.List.{List, [], ◌∷◌, ◌++◌, map, head-eq_of_cons-eq, tail-eq_of_cons-eq}
use Prim.Native.Nat.{ℕ, zero, suc}
use lib.ListN.{replicate}
use Rattle.std.specs.Prelude.{Ok}
use Rattle.xml.specs.Utf8.{utf8, is_scalar}
use Rattle.xml.specs.Notation.{bytes}
use Rattle.xml.specs.Productions.{is_name_start, is_name_more, is_name}
use Rattle.xml.specs.Character.{value_of, guess, character, starts, run}
use Rattle.chars.specs.Name.{name_of}
use Rattle.paths.specs.Path.{All, none, more, print_step, print_line}
use Rattle.paths.specs.Reader.{read_all, kind_at, test_at, step_at, steps, attribute_at, mark_at, end_at, line_at}
use Rattle.paths.specs.Judge.{within, sound_at, lines, judge, list_answer, list_paths}
use Rattle.lookup.specs.Index.{padded}
use Rattle.compiled.specs.Bits.{column, stays_of, goes_of, far_of, lasts_of, marks_of, fit_of}
use Rattle.matcher.specs.Says.{Says}
use Rattle.matcher.specs.Picked.{passing_of, picked_by}
use Rattle.matcher.specs.Fit.{fit_for}
use Rattle.matcher.specs.State.{flood, hits_of, carried, hits_at, carried_at, fresh_state, deeper_of, state_of, hit_at, selecting_by}
use Rattle.matcher.specs.declared.Verdict.{Verdict}
use Rattle.matcher.specs.declared.Verdict.TheVariants.{Unselected, Selected, Marked}
use Rattle.matcher.proofs.Meaning.{told}

-- a list; the names down to an element's parent, and its own
pub record Row : Type 0 where
  pub list : List ℕ
  pub above : List (List ℕ)
  pub own : List ℕ
  pub verdict : Verdict

-- a list, an element's name, the names above it, and the verdict
infix 10 ◌at◌under◌gives◌
abbrev ◌at◌under◌gives◌ : List ℕ → List ℕ → List (List ℕ) → Verdict → Row
l at n under ns gives v = record { list = l; above = ns; own = n; verdict = v }

abbrev a : List ℕ
a = bytes "a"

abbrev b : List ℕ
b = bytes "b"

abbrev c : List ℕ
c = bytes "c"

abbrev g : List ℕ
g = bytes "g"

abbrev h : List ℕ
h = bytes "h"

-- n times w
abbrev times : ℕ → List ℕ → List ℕ
times zero w = []
times (suc n) w = w ++ times n w

-- n elements a, one in the other
abbrev nested : ℕ → List (List ℕ)
nested n = replicate n a

-- é in one code point, and in two
abbrev composed : List ℕ
composed = 0xC3 ∷ 0xA9 ∷ []

abbrev decomposed : List ℕ
decomposed = 0x65 ∷ 0xCC ∷ 0x81 ∷ []

pub rows : List Row
rows =
    -- example d of document 01: after c is closed, b stands under a again
    (bytes "//a/b\n" at a under [] gives Unselected)
    ∷ (bytes "//a/b\n" at c under (a ∷ []) gives Unselected)
    ∷ (bytes "//a/b\n" at b under (a ∷ []) gives Selected)
    ∷ (bytes "//a/b\n" at b under (a ∷ c ∷ []) gives Unselected)
    -- example e: the first step may take the second a
    ∷ (bytes "//a/a/b\n" at b under (nested 3) gives Selected)
    ∷ (bytes "//a/a/b\n" at b under (nested 1) gives Unselected)
    ∷ (bytes "//a/a/b\n" at a under (nested 2) gives Unselected)
    -- a child step first: the root and nothing else
    ∷ (bytes "/a\n" at a under [] gives Selected)
    ∷ (bytes "/a\n" at a under (nested 1) gives Unselected)
    ∷ (bytes "/a\n" at a under (b ∷ []) gives Unselected)
    -- the same name down to depth 64
    ∷ (bytes "//a\n" at a under (nested 63) gives Selected)
    ∷ (bytes "/a/a\n" at a under (nested 63) gives Unselected)
    ∷ (bytes "/a//a\n" at a under (nested 63) gives Selected)
    ∷ (bytes "//a/b\n" at b under (nested 63) gives Selected)
    ∷ (bytes "//b/a\n" at a under (nested 63) gives Unselected)
    -- //a//a//a wants three
    ∷ (bytes "//a//a//a\n" at a under (nested 1) gives Unselected)
    ∷ (bytes "//a//a//a\n" at a under (nested 2) gives Selected)
    ∷ (bytes "//a//a//a\n" at a under (nested 9) gives Selected)
    ∷ (bytes "//a//a//a\n" at a under (a ∷ b ∷ b ∷ a ∷ b ∷ []) gives Selected)
    ∷ (bytes "//a//a//a\n" at b under (nested 9) gives Unselected)
    -- /*//* : all but the root
    ∷ (bytes "/*//*\n" at a under [] gives Unselected)
    ∷ (bytes "/*//*\n" at b under (nested 1) gives Selected)
    ∷ (bytes "/*//*\n" at c under (nested 63) gives Selected)
    -- 16 steps, of either kind
    ∷ (times 16 (bytes "//a") ++ bytes "\n" at a under (nested 14) gives Unselected)
    ∷ (times 16 (bytes "//a") ++ bytes "\n" at a under (nested 15) gives Selected)
    ∷ (times 16 (bytes "//a") ++ bytes "\n" at a under (nested 63) gives Selected)
    ∷ (times 16 (bytes "/a") ++ bytes "\n" at a under (nested 15) gives Selected)
    ∷ (times 16 (bytes "/a") ++ bytes "\n" at a under (nested 16) gives Unselected)
    -- the mark is the path's that selects
    ∷ (bytes "//a #\n" at a under (b ∷ []) gives Marked)
    ∷ (bytes "//a\n//a #\n" at a under (b ∷ []) gives Marked)
    ∷ (bytes "//a #\n//a\n" at a under (b ∷ []) gives Marked)
    ∷ (bytes "//a\n//b #\n" at a under (b ∷ []) gives Selected)
    ∷ (bytes "//a\n//b #\n" at b under (a ∷ []) gives Marked)
    -- names by their bytes
    ∷ (bytes "/" ++ composed ++ bytes "\n" at composed under [] gives Selected)
    ∷ (bytes "/" ++ composed ++ bytes "\n" at decomposed under [] gives Unselected)
    ∷ (bytes "/" ++ decomposed ++ bytes "\n" at composed under [] gives Unselected)
    ∷ (bytes "/" ++ decomposed ++ bytes "\n" at decomposed under [] gives Selected)
    -- a self step takes the place of the step before
    ∷ (bytes "/g/self::g\n" at g under [] gives Selected)
    ∷ (bytes "/g/self::g\n" at g under (g ∷ []) gives Unselected)
    ∷ (bytes "/g/self::h\n" at g under [] gives Unselected)
    ∷ (bytes "/g/self::h\n" at h under (g ∷ []) gives Unselected)
    ∷ (bytes "/*/self::b\n" at b under [] gives Selected)
    ∷ (bytes "/*/self::b\n" at a under [] gives Unselected)
    ∷ (bytes "/*/self::b\n" at b under (b ∷ []) gives Unselected)
    ∷ (bytes "//a/self::*/self::a/b\n" at b under (c ∷ a ∷ []) gives Selected)
    ∷ (bytes "//a/self::*/self::a/b\n" at b under (a ∷ c ∷ []) gives Unselected)
    ∷ (bytes "//a/self::*/self::a/b\n" at a under [] gives Unselected)
    ∷ (bytes "//*/self::b/c\n" at c under (a ∷ b ∷ []) gives Selected)
    -- "/self:::p is a self step with the name :p"
    ∷ (bytes "/*/self:::p\n" at bytes ":p" under [] gives Selected)
    ∷ (bytes "/*/self:::p\n" at bytes "p" under [] gives Unselected)
    -- "place 0 is no element, so no step takes it": a first step self selects nothing, a first step descendant-or-self is as //
    ∷ (bytes "/self::g\n" at g under [] gives Unselected)
    ∷ (bytes "/self::g\n" at g under (g ∷ []) gives Unselected)
    ∷ (bytes "/self::*/g\n" at g under [] gives Unselected)
    ∷ (bytes "/self::*//g\n" at g under (g ∷ g ∷ []) gives Unselected)
    ∷ (bytes "/descendant-or-self::g\n" at g under [] gives Selected)
    ∷ (bytes "/descendant-or-self::g\n" at g under (h ∷ g ∷ []) gives Selected)
    ∷ (bytes "/descendant-or-self::g\n" at h under (g ∷ []) gives Unselected)
    ∷ (bytes "/descendant-or-self::*/g\n" at g under [] gives Unselected)
    -- a descendant-or-self step takes that place or any below
    ∷ (bytes "//a/descendant-or-self::a\n" at a under [] gives Selected)
    ∷ (bytes "//a/descendant-or-self::a\n" at a under (a ∷ b ∷ c ∷ []) gives Selected)
    ∷ (bytes "//a/descendant-or-self::a\n" at b under (nested 1) gives Unselected)
    ∷ (bytes "/a/descendant-or-self::b\n" at a under [] gives Unselected)
    ∷ (bytes "/a/descendant-or-self::b\n" at b under (a ∷ c ∷ []) gives Selected)
    ∷ (bytes "/a/descendant-or-self::a/b\n" at b under (nested 1) gives Selected)
    ∷ (bytes "/a/descendant-or-self::a/b\n" at b under (a ∷ c ∷ a ∷ []) gives Selected)
    ∷ (bytes "/a/descendant-or-self::a/b\n" at b under (a ∷ c ∷ []) gives Unselected)
    ∷ (bytes "/a/descendant-or-self::a/descendant-or-self::a\n" at a under [] gives Selected)
    ∷ (bytes "/a/descendant-or-self::a/descendant-or-self::a\n" at a under (nested 1) gives Selected)
    ∷ (bytes "/a/descendant-or-self::a/descendant-or-self::a\n" at a under (nested 63) gives Selected)
    ∷ (bytes "/a/descendant-or-self::a/descendant-or-self::a\n" at a under (b ∷ a ∷ []) gives Unselected)
    ∷ (bytes "//a//a/descendant-or-self::a\n" at a under [] gives Unselected)
    ∷ (bytes "//a//a/descendant-or-self::a\n" at a under (nested 1) gives Selected)
    -- 16 steps at one place
    ∷ (bytes "/a" ++ times 15 (bytes "/self::a") ++ bytes "\n" at a under [] gives Selected)
    ∷ (bytes "/a" ++ times 15 (bytes "/self::a") ++ bytes "\n" at a under (nested 1) gives Unselected)
    ∷ (bytes "/a" ++ times 14 (bytes "/self::*") ++ bytes "/self::b\n" at a under [] gives Unselected)
    ∷ (bytes "/a" ++ times 14 (bytes "/self::*") ++ bytes "/b\n" at b under (nested 1) gives Selected)
    ∷ (bytes "/a" ++ times 15 (bytes "/descendant-or-self::a") ++ bytes "\n" at a under [] gives Selected)
    ∷ (bytes "/a" ++ times 15 (bytes "/descendant-or-self::a") ++ bytes "\n" at a under (nested 63) gives Selected)
    -- the mark is that of the path, of whatever kind its last step is
    ∷ (bytes "//a/self::a #\n//a\n" at a under (b ∷ []) gives Marked)
    ∷ (bytes "/a/self::a #\n//a\n" at a under (b ∷ []) gives Selected)
    ∷ (bytes "/b/descendant-or-self::* #\n" at a under (b ∷ []) gives Marked)
    ∷ (bytes "/b/descendant-or-self::* #\n" at b under [] gives Marked)
    -- the empty list
    ∷ ([] at a under [] gives Unselected)
    ∷ ([] at a under (nested 63) gives Unselected)
    ∷ []

abbrev verdict_in : Row → Verdict
verdict_in r =
    let ps = list_paths r.list in
    let f = fit_for ps r.own in
    picked_by f (passing_of ps (selecting_by (state_of ps r.above) f) [])

-- every list is sound
pub sound : map (λ r. list_answer r.list) rows ≡ map (λ r. (Ok tt)) rows
unfolding rows list_answer judge lines sound_at within line_at steps read_all end_at mark_at attribute_at step_at test_at kind_at print_step
    print_line name_of run starts
    character guess value_of utf8 is_scalar is_name_start is_name_more is_name
sound = refl

pub computed : map verdict_in rows ≡ map (λ r. r.verdict) rows
unfolding rows list_paths list_answer judge lines sound_at within line_at steps read_all end_at mark_at attribute_at step_at test_at kind_at
    print_step print_line name_of run starts character guess value_of utf8 is_scalar is_name_start is_name_more is_name picked_by passing_of
    selecting_by hit_at state_of deeper_of fresh_state carried_at carried hits_at hits_of flood fit_for fit_of stays_of goes_of far_of
    lasts_of marks_of column padded
computed = refl

all_meant : (rs : List Row) → map (λ r. list_answer r.list) rs ≡ map (λ r. (Ok tt)) rs → map verdict_in rs ≡ map (λ r. r.verdict) rs
    → All (λ r. Says (list_paths r.list) (r.above ++ r.own ∷ []) [] r.verdict) rs
all_meant [] e q = none
all_meant (r ∷ rs) e q =
    more {x = r}
    (rw (← head-eq_of_cons-eq q) (told r.list (head-eq_of_cons-eq e) r.above r.own []))
    (all_meant rs (tail-eq_of_cons-eq e) (tail-eq_of_cons-eq q))

pub meant : All (λ r. Says (list_paths r.list) (r.above ++ r.own ∷ []) [] r.verdict) rows
meant = all_meant rows sound computed
