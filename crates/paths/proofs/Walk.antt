-- The walk over the steps of a line. In order: what is known within a line, and how a step goes on; a line that was read, its answers, and
-- the front of the next.
use mathlib.Core.Path.{◌≡◌, refl, sym, ap, ◌∙◌}
use mathlib.Core.Bool.{Bool, true, false, not, ◌&&◌, and_assoc, and-true}
use mathlib.Core.List.{List, [], ◌∷◌}
use mathlib.Core.Option.{none, some}
use Prim.Native.Nat.{ℕ, ◌+◌, ◌-◌, ◌≤◌, ◌<◌}
use native.Mathlib.Nat.{pos_of_ne-zero}
use native.Mathlib.Omega.{arith}
use borrow.Author.Tests.{not-true, not-false}
use lib.Dec.{leb}
use lib.ListN.{length, drop}
use Rattle.std.specs.Prelude.{Option, None, Some, Err}
use Rattle.paths.specs.Path.{Step, Path, print_line}
use Rattle.paths.specs.Reader.{Run, cons, steps, Ending, end_at, path_of, with_end, line_at}
use Rattle.paths.specs.Judge.{small_names, small_test, within, sound_at, lines, list_answer}
use Rattle.paths.specs.Place.{step_end_at, line_end_at}
use Rattle.paths.specs.declared.ListError.TheVariants.{Malformed, TooLarge}
use Rattle.paths.specs.declared.Step.{Step as PlacedStep}
use Rattle.paths.specs.declared.LineEnd.{LineEnd}
use Rattle.paths.proofs.Print.{run_cons}
use Rattle.paths.proofs.Steps.{steps_none}
use Rattle.paths.proofs.Lines.{with_end_lem, line_long, sound_undoes}
use Rattle.paths.proofs.Here.{StepHere, step_none, step_here, EndHere, end_none, end_here, line_ends}
use Rattle.paths.proofs.Front.{Passing, pass_start, pass_on, AtLine, line_start, too_long, line_sound, line_past, line_fault}

-- ---- within a line that begins at `from`

-- the line's number and its front; its steps up to the place at are counted, and `small` says that none of their names is too long
pub record Walking (d : List ℕ) (from line at count : ℕ) (small : Bool) : Type 0 where
  pub front : AtLine d from line
  pub some : from < length d
  pub few : line ≤ 32
  pub passing : Passing steps d from at count
  pub small_is : small && small_names (steps (drop at d)).all ≡ small_names (steps (drop from d)).all

pub walk_start : {d : List ℕ} {from line : ℕ} → AtLine d from line → from < length d → line ≤ 32 → Walking d from line from 0 true
walk_start v l h = record { front = v; some = l; few = h; passing = pass_start steps (omega arith); small_is = refl }

-- a step was found
module _ {d : List ℕ} {from line at count : ℕ} {small : Bool} (w : Walking d from line at count small)
    {r : Option PlacedStep} (q : r ≡ step_end_at d at) {y : PlacedStep} (f : r ≡ Some y) where
  step_is : StepHere d at y
  step_is = step_here d at q f

  pub step_less : length d - y.end < length d - at
  step_less = let l = step_is.on in let i = step_is.inside in omega arith

  pub step_room : count + 1 ≤ length d
  step_room = let b = w.passing.begun in let l = step_is.on in let i = step_is.inside in omega arith

  pub walk_on : Walking d from line y.end (count + 1) (small && leb y.len 255)
  walk_on =
      let all : small_names (step_is.step ∷ (steps (drop y.end d)).all) ≡ small_names (steps (drop at d)).all =
      ap (λ (r : Run Step). small_names r.all) (sym step_is.runs) in
      record {
        front = w.front;
        some = w.some;
        few = w.few;
        passing = pass_on steps w.passing step_is.step y.end step_is.runs step_is.on step_is.inside;
        small_is = rw step_is.size (and_assoc small _ _ ∙ ap (λ (b : Bool). small && b) all ∙ w.small_is);
      }

-- ---- a line that was read

sizes_within : (xs : List Step) (y : Ending) (count : ℕ) (small fine : Bool) → count ≡ length xs → small ≡ small_names xs
    → fine ≡ small_test y.test → within (path_of xs y) ≡ leb count 16 && (small && fine)
unfolding within
sizes_within xs y count small fine a b c = rw (a, b, c)

module _ {d : List ℕ} {from line at count : ℕ} {small : Bool} (w : Walking d from line at count small)
    {r : Option PlacedStep} (q : r ≡ step_end_at d at) (f : r ≡ None) where
  abbrev xs : List Step
  xs = (steps (drop from d)).all

  here : steps (drop at d) ≡ record { all = []; rest = drop at d }
  here = steps_none (drop at d) (step_none d at q f)

  count_is : count ≡ length xs
  count_is =
      let n = w.passing.counted in
      let m : length (steps (drop at d)).all ≡ 0 = ap (λ (r : Run Step). length r.all) here in
      omega arith

  small_names_lem : small ≡ small_names xs
  small_names_lem =
      sym (and-true small) ∙ ap (λ (r : Run Step). small && small_names r.all) (sym here) ∙ w.small_is

  rest_is : (steps (drop from d)).rest ≡ drop at d
  rest_is = sym w.passing.left ∙ ap (λ (r : Run Step). r.rest) here

  line_is : line_at (drop from d) ≡ with_end xs (end_at (drop at d))
  unfolding line_at
  line_is = rw rest_is

  malformed : line_at (drop from d) ≡ none → Err (Malformed line) ≡ list_answer d
  unfolding sound_at
  malformed e = line_fault w.front w.some w.few (rw e) none e

  pub no_steps : count ≡ 0 → Err (Malformed line) ≡ list_answer d
  no_steps z = malformed (line_is ∙ go xs (sym count_is ∙ z))
    where
      go : (ys : List Step) → length ys ≡ 0 → with_end ys (end_at (drop at d)) ≡ none
      go [] e = refl
      go (y ∷ ys) e = absurd (omega arith)

  module _ {k : Option LineEnd} (e : k ≡ line_end_at d at) where
    pub no_end : k ≡ None → Err (Malformed line) ≡ list_answer d
    no_end g = malformed (line_is ∙ ap (with_end xs) (end_none d at e g) ∙ nothing xs)
      where
        nothing : (ys : List Step) → with_end ys none ≡ none
        nothing [] = refl
        nothing (y ∷ ys) = refl

    module _ {y : LineEnd} (g : k ≡ Some y) (n : count ≡ 0 → ⊥) where
      end_is : EndHere d at y
      end_is = end_here d at e g

      abbrev path : Path
      path = path_of xs end_is.ending

      -- the sizes of the steps and of the test
      abbrev fits : Bool
      fits = leb count 16 && (small && (leb y.len 255 && leb y.size 255))

      line_found : line_at (drop from d) ≡ some path
      line_found = line_is ∙ ap (with_end xs) end_is.found ∙ with_end_lem xs end_is.ending (rw (← count_is) (pos_of_ne-zero n))

      within_is : within path ≡ fits
      within_is = sizes_within xs end_is.ending count small (leb y.len 255 && leb y.size 255) count_is small_names_lem end_is.small

      next_is : y.next ≡ from + length (print_line path)
      next_is =
          let b = w.passing.begun in
          end_is.ends ∙ sym (line_ends d from at end_is.ending (omega arith) w.passing.inside rest_is)

      line_on : from < y.next
      line_on = let b = w.passing.begun in let l = end_is.on in omega arith

      pub line_less : length d - y.next < length d - from
      line_less = let l = line_on in let i = end_is.inside in omega arith

      pub line_large : not fits ≡ true → Err (TooLarge line) ≡ list_answer d
      unfolding sound_at
      line_large h =
          let o : within path ≡ false = within_is ∙ not-true _ h in
          line_fault w.front w.some w.few (rw (line_found, o)) (some path) line_found

      pub line_next : not fits ≡ false → AtLine d y.next (line + 1)
      unfolding sound_at lines
      line_next u =
          let s : sound_at (drop from d) ≡ some path = rw (line_found, within_is ∙ not-false _ u) in
          let c : lines (drop from d) ≡ cons path (lines (drop y.next d)) =
          run_cons sound_undoes line_long d from s ∙ ap (λ (n : ℕ). cons path (lines (drop n d))) (sym next_is) in
          let a = w.front in
          let h = a.first in
          let l = w.few in
          let z : line - 1 + 1 ≡ line + 1 - 1 = omega arith in
          record {
            passing = rw z at (pass_on lines a.passing path y.next c line_on end_is.inside);
            short = a.short;
            first = omega arith;
            few = omega arith;
          }

pub ruleset walk_line = (walk_start, step_less, step_room, walk_on, no_steps, no_end, line_less, line_large, line_next)

pub ruleset walk = (line_start, too_long, line_sound, line_past, walk_line)
