-- The walk over the lines of a list. In order: a run that is passed in part, of lines or of steps; what is known at a line's front; the
-- answers there.
use mathlib.Core.Path.{◌≡◌, refl, sym, ap, ◌∙◌}
use mathlib.Core.List.{List, []}
use mathlib.Core.Option.{Option, none}
use Prim.Native.Nat.{ℕ, ◌+◌, ◌-◌, ◌≤◌, ◌<◌}
use native.Mathlib.Omega.{arith}
use borrow.Author.Tests.{le-ltb, lt-ltb}
use lib.ListN.{length, drop, length-drop}
use Rattle.utf8.proofs.Place.{drop_end}
use Rattle.std.specs.Prelude.{Ok, Err}
use Rattle.paths.specs.Path.{Path}
use Rattle.paths.specs.Reader.{Run, cons, line_at}
use Rattle.paths.specs.Judge.{sound_at, lines, fault_of, judge, list_answer}
use Rattle.paths.specs.declared.ListError.TheVariants.{TooLong, TooLarge}
use Rattle.paths.proofs.Lines.{sound_nil, lines_none}
use Rattle.paths.proofs.Meaning.{judge_past, judge_fault, short_answer}

-- ---- a run that is passed in part

-- the run f from the place `from` on has `count` things up to the place at, and then those that it has from there on
pub record Passing {A : Type 0} (f : List ℕ → Run A) (d : List ℕ) (from at count : ℕ) : Type 0 where
  pub begun : from + count ≤ at
  pub inside : at ≤ length d
  pub counted : count + length (f (drop at d)).all ≡ length (f (drop from d)).all
  pub left : (f (drop at d)).rest ≡ (f (drop from d)).rest

pub pass_start : {A : Type 0} (f : List ℕ → Run A) {d : List ℕ} {from : ℕ} → from ≤ length d → Passing f d from from 0
pass_start f l = record { begun = omega arith; inside = l; counted = omega arith; left = refl }

pub pass_on : {A : Type 0} (f : List ℕ → Run A) {d : List ℕ} {from at count : ℕ} → Passing f d from at count → (x : A) (next : ℕ)
    → f (drop at d) ≡ cons x (f (drop next d)) → at < next → next ≤ length d → Passing f d from next (count + 1)
pass_on f v x next e l i =
    let b = v.begun in
    let n = ap (λ r. length r.all) e in
    let c = v.counted in
    record {
      begun = omega arith;
      inside = i;
      counted = omega arith;
      left = sym (ap (λ r. r.rest) e) ∙ v.left;
    }

-- ---- at a line's front

-- the lines before this one are sound, and it is `line`, counted from 1
pub record AtLine (d : List ℕ) (at line : ℕ) : Type 0 where
  pub passing : Passing lines d 0 at (line - 1)
  pub short : length d ≤ 8192
  pub first : 1 ≤ line
  pub few : line ≤ 33

pub line_start : {d : List ℕ} → length d ≤ 8192 → AtLine d 0 1
line_start l = record { passing = pass_start lines (omega arith); short = l; first = omega arith; few = omega arith }

pub too_long : (d : List ℕ) → 8192 < length d → Err TooLong ≡ list_answer d
unfolding list_answer
too_long d l = sym (rw (lt-ltb 8192 (length d) l))

module _ {d : List ℕ} {at line : ℕ} (v : AtLine d at line) where
  -- the run stops here, at t
  stops : (t : List ℕ) → lines (drop at d) ≡ record { all = []; rest = t } → (length (lines d).all ≡ line - 1) × ((lines d).rest ≡ t)
  stops t e =
      let n = v.passing.counted in
      let m : length (lines (drop at d)).all ≡ 0 = ap (λ (r : Run Path). length r.all) e in
      (omega arith, sym v.passing.left ∙ ap (λ (r : Run Path). r.rest) e)

  pub line_sound : length d ≤ at → Ok tt ≡ list_answer d
  unfolding judge
  line_sound l =
      let (n, q) = stops [] (ap lines (drop_end d at l) ∙ lines_none [] sound_nil) in
      let f = v.few in
      sym (short_answer d v.short ∙ rw (n, q, le-ltb 32 (line - 1) (omega arith)))

  some_left : at < length d → drop at d ≡ [] → ⊥
  some_left l e = let z : length (drop at d) ≡ 0 = ap length e in omega (arith, length-drop at d)

  pub line_past : at < length d → 32 < line → Err (TooLarge line) ≡ list_answer d
  line_past l h =
      let f = v.few in
      let n = v.passing.counted in
      let z : line ≡ 33 = omega arith in
      let m : 32 + length (lines (drop at d)).all ≡ length (lines d).all = omega arith in
      ap (λ (n : ℕ). Err (TooLarge n)) z ∙ sym (short_answer d v.short ∙ judge_past (lines d) (drop at d) (some_left l) m v.passing.left)

  -- the line here is not sound
  pub line_fault : at < length d → line ≤ 32 → sound_at (drop at d) ≡ none → (o : Option Path) → line_at (drop at d) ≡ o
      → Err (fault_of o line) ≡ list_answer d
  unfolding judge
  line_fault l h e o k =
      let (n, q) = stops (drop at d) (lines_none (drop at d) e) in
      let f = v.first in
      let z : line - 1 + 1 ≡ line = omega arith in
      sym (short_answer d v.short ∙ rw (n, q, le-ltb 32 (line - 1) (omega arith))
      (judge_fault (drop at d) (line - 1) (omega arith) (some_left l) o k ∙ ap (λ (n : ℕ). Err (fault_of o n)) z))
