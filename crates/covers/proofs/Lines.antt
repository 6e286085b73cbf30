-- The laws of reading a list line by line. In order: the steps of a line; its end; the line of a path; the lines of a sound list.
-- Each walk knows what is left of the list, which is what it was meant to read.
use mathlib.Core.Path.{◌≡◌, refl, sym, ap, ◌∙◌}
use mathlib.Core.Bool.{Bool, true, false, ◌&&◌, and_assoc, and-true}
use mathlib.Core.List.{List, [], ◌∷◌, ◌++◌, append_assoc, append-nil}
use mathlib.Core.Option.{Option as Maybe, none, some, none-ne-some, some-injective}
use Prim.Native.Nat.{ℕ, suc, ◌+◌, ◌-◌, ◌*◌, ◌^◌, ◌≤◌, ◌<◌}
use native.Mathlib.Numerals.{add-one}
use native.Mathlib.Omega.{arith}
use borrow.Author.Tests.{ne_eqb}
use lib.ListN.{length, take, drop, set, length-append, length-drop, length-set, length-replicate, replicate}
use lib.Seq.{take-append_seam, take-suc-set}
use Rattle.std.specs.Prelude.{Option, None, Some, Ok}
use Rattle.xml.specs.Notation.{bytes}
use Rattle.utf8.proofs.Place.{drop_end}
use Rattle.paths.specs.Path.{Step, AttributeTest, Path, print_step, print_all, print_attribute, print_mark, print_line}
use Rattle.paths.specs.Reader.{Run, cons, steps, Ending, ending_of, print_end, end_at, path_of}
use Rattle.paths.specs.Judge.{lines, list_answer, list_paths}
use Rattle.paths.specs.Place.{step_end_at, value_from, ended, line_end_at}
use Rattle.paths.specs.declared.Step.{Step as PlacedStep}
use Rattle.paths.specs.declared.LineEnd.{LineEnd}
use Rattle.paths.proofs.Steps.{steps_none, steps_found}
use Rattle.paths.proofs.Lines.{end_undoes, line_long, sound_nil, lines_none}
use Rattle.paths.proofs.Meaning.{paths_print}
use Rattle.paths.proofs.Here.{StepHere, step_none, step_here, EndHere, end_none, end_here, line_ends, LineHere, line_here, sound_lines}
use Rattle.compiled.proofs.InLine.{sound_bytes}
use Rattle.covers.specs.Cover.{is_plain, plain}
use Rattle.covers.specs.Line.{StepsAre, test_end, TailIs, LineIs, Inside, LineOf, Each, none as nil, more, Lined}
use Rattle.covers.specs.declared.line.Line.{Line}

-- ---- the steps of a line

-- `p` tells of the steps before the place i, and with those from there on of all
pub record Walking (d : List ℕ) (at i : ℕ) (p : Bool) : Type 0 where
  pub every : p && plain (steps (drop i d)).all ≡ plain (steps (drop at d)).all
  pub left : (steps (drop i d)).rest ≡ (steps (drop at d)).rest
  pub begun : at ≤ i
  pub inside : i ≤ length d

pub walk_start : {d : List ℕ} {at : ℕ} → at ≤ length d → Walking d at at true
walk_start l = record { every = refl; left = refl; begun = omega arith; inside = l }

module _ {d : List ℕ} {at i : ℕ} {p : Bool} (w : Walking d at i p) {r : Option PlacedStep} (q : r ≡ step_end_at d i) where
  module _ {y : PlacedStep} (f : r ≡ Some y) where
    here : StepHere d i y
    here = step_here d i q f

    pub walk_less : length d - y.end < length d - i
    walk_less = omega (arith, here.on, here.inside)

    pub walk_on : {b : Bool} → b ≡ is_plain y.kind → Walking d at y.end (p && b)
    walk_on {b} e =
        record {
          every =
              and_assoc p b (plain (steps (drop y.end d)).all)
              ∙ ap (λ (x : Bool). p && (x && plain (steps (drop y.end d)).all)) (e ∙ ap is_plain here.kind)
              ∙ ap (λ (y : Run Step). p && plain y.all) (sym here.runs)
              ∙ w.every;
          left = sym (ap (λ (y : Run Step). y.rest) here.runs) ∙ w.left;
          begun = omega (arith, w.begun, here.on);
          inside = here.inside;
        }

  pub walk_end : r ≡ None → StepsAre d at i p
  walk_end f =
      let n = steps_none (drop i d) (step_none d i q f) in
      record {
        plain_is = sym (and-true p) ∙ ap (λ (y : Run Step). p && plain y.all) (sym n) ∙ w.every;
        rest_is = sym w.left ∙ ap (λ (y : Run Step). y.rest) n;
        begun = w.begun;
        inside = w.inside;
      }

pub ruleset walking = (walk_start, walk_less, walk_on, walk_end)

-- ---- the end of a line

pub test_none : (at len value size : ℕ) → len ≡ 0 → at ≡ test_end at len value size
test_none at len value size e = rw e

pub test_some : (at len value size : ℕ) → (len ≡ 0 → ⊥) → value + size + 2 ≡ test_end at len value size
test_some at len value size n = rw (ne_eqb len 0 n)

pub ruleset testing = (test_none, test_some)

module _ (d : List ℕ) (i : ℕ) {r : Option LineEnd} (q : r ≡ line_end_at d i) {y : LineEnd} (f : r ≡ Some y) where
  ends : EndHere d i y
  ends = end_here d i q f

  test_is : test_end i y.len y.value y.size ≡ i + length (print_attribute ends.ending.test)
  test_is = go ends.ending.test refl ends.ending.marked (i + length (print_end ends.ending)) ends.placed
    where
      go : (x : Maybe AttributeTest) → ends.ending.test ≡ x → (m : Bool) (k : ℕ) → Some y ≡ Some (ended i x m k)
          → test_end i y.len y.value y.size ≡ i + length (print_attribute x)
      go none h m k z = let a : y.len ≡ 0 = cc in rw a (omega arith)
      go (some x) h m k z =
          let a : y.len ≡ length x.name = cc in
          let b : y.value ≡ value_from i x = cc in
          let c : y.size ≡ length x.value = cc in
          let s = (ends.tested x h).some in
          let t : length (print_attribute (some x)) ≡ 2 + (length x.name + (2 + (length x.value + 2))) =
          simp length-append (omega arith) in
          rw (ne_eqb y.len 0 (λ u. omega arith)) (omega arith)

  test_inside : test_end i y.len y.value y.size ≤ length d
  test_inside =
      let e = ends.ending in
      let z = length-append (print_attribute e.test) (print_mark e.marked ++ bytes "\n") in
      omega (arith, test_is, ends.ends, ends.inside)

  pub end_room : length d ≤ 8192 → y.value + y.size ≤ 8192
  end_room l = go ends.ending.test refl ends.ending.marked (i + length (print_end ends.ending)) ends.placed
    where
      go : (x : Maybe AttributeTest) → ends.ending.test ≡ x → (m : Bool) (k : ℕ) → Some y ≡ Some (ended i x m k)
          → y.value + y.size ≤ 8192
      go none h m k z =
          let a : y.value ≡ 0 = cc in
          let b : y.size ≡ 0 = cc in
          omega arith
      go (some x) h m k z =
          let s = (ends.tested x h).some in
          omega (arith, test_inside, test_some i y.len y.value y.size (λ u. omega arith))

  pub line_ended : {at : ℕ} {p : Bool} → StepsAre d at i p → {end : ℕ} → end ≡ test_end i y.len y.value y.size
      → LineIs d at (record { from = at; steps = i; end = end; next = y.next; marked = y.marked; plain = p })
  line_ended {at} {p} w {end} g = record { from_is = refl; steps_are = w; tail = tail }
    where
      tail : (e : Ending) → end_at (drop i d) ≡ some e
          → TailIs (record { from = at; steps = i; end = end; next = y.next; marked = y.marked; plain = p }) e
      tail e h =
          let s : ends.ending ≡ e = some-injective _ _ (sym ends.found ∙ h) in
          record {
            end_is = g ∙ test_is ∙ ap (λ (y : Ending). i + length (print_attribute y.test)) s;
            next_is = ends.ends ∙ ap (λ (y : Ending). i + length (print_end y)) s;
            marked_is = ends.mark ∙ ap (λ (y : Ending). y.marked) s;
          }

pub line_unended : {d : List ℕ} {i : ℕ} {r : Option LineEnd} → r ≡ line_end_at d i → r ≡ None → {at : ℕ} {p : Bool} → StepsAre d at i p
    → LineIs d at (record { from = at; steps = i; end = i; next = i; marked = false; plain = p })
line_unended {d} {i} q f w =
    record { from_is = refl; steps_are = w; tail = λ e h. absurd (none-ne-some _ (sym (end_none d i q f) ∙ h)) }

pub ruleset ending = (end_room, line_ended, line_unended)

-- ---- the line of a path

module _ {d : List ℕ} {at : ℕ} {r : Line} (w : LineIs d at r) (h : LineHere d at) where
  rest_ends : end_at (drop r.steps d) ≡ some (ending_of h.path)
  rest_ends = ap end_at (sym w.steps_are.rest_is) ∙ h.has_end

  tail_is : TailIs r (ending_of h.path)
  tail_is = w.tail (ending_of h.path) rest_ends

  pub next_is : r.next ≡ at + length (print_line h.path)
  next_is =
      tail_is.next_is
      ∙ sym (line_ends d at r.steps (ending_of h.path) w.steps_are.begun w.steps_are.inside w.steps_are.rest_is)
      ∙ ap (λ (ss : List Step). at + length (print_line (path_of ss (ending_of h.path)))) h.has_steps

  -- the bytes of its steps, and of its end
  steps_print : drop at d ≡ print_all print_step h.path.steps ++ drop r.steps d
  steps_print =
      (steps_found (drop at d)).prints
      ∙ ap (λ (ss : List Step). print_all print_step ss ++ (steps (drop at d)).rest) h.has_steps
      ∙ ap (λ (t : List ℕ). print_all print_step h.path.steps ++ t) w.steps_are.rest_is

  steps_end_lem : r.steps ≡ at + length (print_all print_step h.path.steps)
  steps_end_lem =
      let z = ap length steps_print ∙ length-append (print_all print_step h.path.steps) (drop r.steps d) in
      omega (arith, length-drop at d, length-drop r.steps d, w.steps_are.begun, w.steps_are.inside)

  abbrev tested : List ℕ
  tested = print_attribute h.path.test

  abbrev marked : List ℕ
  marked = print_mark h.path.marked ++ bytes "\n"

  test_prints : (t : List ℕ) × (drop r.steps d ≡ tested ++ (marked ++ t))
  test_prints =
      let p = end_undoes.sound (drop r.steps d) (ending_of h.path) rest_ends in
      (p.rest, p.prints ∙ append_assoc tested marked p.rest)

  line_inside : Inside d r
  line_inside =
      let (t, e) = test_prints in
      let z = ap length e ∙ length-append tested (marked ++ t) in
      record {
        begun = rw w.from_is w.steps_are.begun;
        tested = omega (arith, tail_is.end_is);
        inside = omega (arith, tail_is.end_is, length-drop r.steps d, w.steps_are.inside);
      }

  pub line_of : LineOf d r h.path
  line_of =
      let (t, e) = test_prints in
      let ss = print_all print_step h.path.steps in
      let l : r.end - r.steps ≡ length tested = omega (arith, tail_is.end_is) in
      let k : r.end - r.from ≡ length (ss ++ tested) =
      omega (arith, tail_is.end_is, steps_end_lem, w.from_is, length-append ss tested) in
      let b : drop r.from d ≡ (ss ++ tested) ++ (marked ++ t) =
      ap (λ (i : ℕ). drop i d) w.from_is
      ∙ steps_print
      ∙ ap (λ (u : List ℕ). ss ++ u) e
      ∙ sym (append_assoc ss tested (marked ++ t)) in
      record {
        is = h.good.path;
        within = line_inside;
        plain_is = w.steps_are.plain_is ∙ ap plain h.has_steps;
        marked_is = tail_is.marked_is;
        body_is = rw (k, b) (take-append_seam (ss ++ tested) (marked ++ t));
        test_is = rw (l, e) (take-append_seam tested (marked ++ t));
      }

  -- the lines go on behind it
  pub line_runs : lines (drop at d) ≡ cons h.path (lines (drop r.next d))
  line_runs = h.runs ∙ ap (λ (k : ℕ). cons h.path (lines (drop k d))) (sym next_is)

  pub line_less : length d - r.next < length d - at
  line_less = omega (arith, next_is, h.inside, line_long h.path)

  pub line_in : r.next ≤ length d
  line_in = omega (arith, next_is, h.inside)

-- ---- the lines of a sound list

each_last : {A B : Type 0} {R : A → B → Type 0} {xs : List A} {ys : List B} {x : A} {y : B} → Each R xs ys → R x y
    → Each R (xs ++ x ∷ []) (ys ++ y ∷ [])
each_last nil r = more r nil
each_last (more s e) r = more s (each_last e r)

-- the first `count` lines are those of the paths before the place at
pub record Lining (d : List ℕ) (all : List Line) (count at : ℕ) : Type 0 where
  pub sound : list_answer d ≡ Ok tt
  pub done : List Path
  pub each : Each (LineOf d) (take count all) done
  pub count_is : count ≡ length done
  pub paths_are : list_paths d ≡ done ++ (lines (drop at d)).all
  pub rest_is : (lines (drop at d)).rest ≡ []
  pub inside : at ≤ length d
  pub long : length all ≡ 32

pub lines_start : {d : List ℕ} → list_answer d ≡ Ok tt → (x : Line) → Lining d (replicate 32 x) 0 0
lines_start {d} e x =
    let q = sound_lines d e in
    record {
      sound = e;
      done = [];
      each = nil;
      count_is = refl;
      paths_are = sym (ap (λ (r : Run Path). r.all) q);
      rest_is = ap (λ (r : Run Path). r.rest) q;
      inside = omega arith;
      long = length-replicate 32 x;
    }

module _ {d : List ℕ} {all : List Line} {count at : ℕ} (v : Lining d all count at) where
  pub lines_bytes : length d ≤ 8192
  lines_bytes = sound_bytes d v.sound

  pub lines_place : at ≤ length d
  lines_place = v.inside

  module _ (l : at < length d) where
    there : LineHere d at
    there = line_here d at v.rest_is l

    pub lines_few : count < 32
    lines_few =
        let few = (paths_print d v.sound).2 in
        let a = ap length v.paths_are ∙ length-append v.done (lines (drop at d)).all in
        let b : length (lines (drop at d)).all ≡ suc (length (lines (drop (at + length (print_line there.path)) d)).all) =
        ap (λ (r : Run Path). length r.all) there.runs in
        omega (arith, v.count_is)

    -- numbers of 64 bits
    pub lines_scaled : count * 40 < 2 ^ 64
    lines_scaled = let z = lines_few in let y : 2 ^ 64 ≡ 18446744073709551616 = refl in omega arith

    pub lines_next : count + 1 < 2 ^ 64
    lines_next = let z = lines_few in let y : 2 ^ 64 ≡ 18446744073709551616 = refl in omega arith

    module _ {r : Line} (w : LineIs d at r) where
      pub lines_less : length d - r.next < length d - at
      lines_less = line_less w there

      pub lines_more : Lining d (set all count r) (count + 1) r.next
      lines_more =
          let c : count < length all = rw v.long lines_few in
          record {
            sound = v.sound;
            done = v.done ++ there.path ∷ [];
            each = rw (add-one count, take-suc-set all count r c) (each_last v.each (line_of w there));
            count_is =
                rw (add-one count)
                (ap suc v.count_is ∙ sym (length-append v.done (there.path ∷ []) ∙ add-one (length v.done)));
            paths_are =
                v.paths_are
                ∙ ap (λ (y : Run Path). v.done ++ y.all) (line_runs w there)
                ∙ sym (append_assoc v.done (there.path ∷ []) (lines (drop r.next d)).all);
            rest_is = sym (ap (λ (y : Run Path). y.rest) (line_runs w there)) ∙ v.rest_is;
            inside = line_in w there;
            long = length-set all count r ∙ v.long;
          }

  pub lines_end : length d ≤ at → Lined d all count
  lines_end l =
      let n : lines (drop at d) ≡ record { all = []; rest = [] } = ap lines (drop_end d at l) ∙ lines_none [] sound_nil in
      let e : list_paths d ≡ v.done =
      v.paths_are ∙ ap (λ (y : Run Path). v.done ++ y.all) n ∙ append-nil v.done in
      record {
        long = v.long;
        few = let few = (paths_print d v.sound).2 in omega (arith, v.count_is, ap length e);
        each = rw e v.each;
      }

pub ruleset lining = (lines_start, lines_bytes, lines_place, lines_few, lines_scaled, lines_next, lines_less, lines_more, lines_end)
