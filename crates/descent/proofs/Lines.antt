-- The lines of a list, tried on an element. In order: a step that is read is the one that is tried; the steps of a line; the test of
-- a line; the lines of a sound list.
use mathlib.Core.Path.{◌≡◌, refl, sym, ap, ◌∙◌, subst}
use mathlib.Core.Bool.{Bool, true, false, false≢true, ◌&&◌, ◌||◌, or_assoc, or-false, and_comm}
use mathlib.Core.List.{List, [], ◌∷◌, ◌++◌, append_assoc, append-nil}
use mathlib.Core.Logic.{◌↔◌}
use mathlib.Core.Option.{Option, none, some, none-ne-some, some-injective}
use Prim.Native.Nat.{ℕ, zero, suc, ◌+◌, ◌-◌, ◌≤◌, ◌<◌}
use native.Mathlib.Omega.{arith}
use borrow.Author.Tests.{ne_eqb}
use lib.ListN.{length, take, drop, get_or, set, length-set, replicate, length-replicate, length-append}
use lib.Seq.{get_or-set_same, get_or-set_other}
use Rattle.std.specs.Prelude.{Option as Maybe, None, Some, Ok}
use Rattle.xml.specs.Notation.{bytes}
use Rattle.utf8.proofs.Place.{drop_end}
use Rattle.paths.specs.Path.{Test, any, named, Step, AttributeTest, Path, print_kind, print_test, print_step, print_mark, print_line}
use Rattle.paths.specs.Path.{test_size, ProperTest}
use Rattle.paths.specs.Reader.{Run, cons, step_at, steps, Ending, ending_of, print_end, end_at, path_of}
use Rattle.paths.specs.Judge.{lines, list_answer, list_paths}
use Rattle.paths.specs.Place.{step_placed, step_end_at, ended, line_end_at}
use Rattle.paths.specs.declared.LineEnd.{LineEnd}
use Rattle.paths.specs.declared.Kind.{Kind}
use Rattle.paths.specs.declared.Step.{Step as PlacedStep}
use Rattle.paths.proofs.Names.{name_long}
use Rattle.paths.proofs.Print.{read_inside}
use Rattle.paths.proofs.Steps.{step_undoes, step_long, steps_none}
use Rattle.paths.proofs.Lines.{sound_nil, lines_none}
use Rattle.paths.proofs.Here.{StepHere, step_none, step_here, EndHere, end_none, end_here, line_ends, LineHere, line_here, sound_lines}
use Rattle.attributes.specs.Attribute.{Attribute}
use Rattle.attributes.specs.Held.{has_attribute}
use Rattle.compiled.specs.Bits.{passes}
use Rattle.document.specs.Levels.{names_of}
use Rattle.trees.specs.Written.{root_first}
use Rattle.matcher.specs.Select.{Reaches, all, PassesName}
use Rattle.matcher.specs.Test.{passes_name, selects}
use Rattle.matcher.specs.Pick.{passes_test, picks}
use Rattle.matcher.specs.Says.{some as some_of, decided, verdict_of}
use Rattle.matcher.specs.declared.Verdict.{Verdict}
use Rattle.matcher.proofs.Laying.{reach_none}
use Rattle.matcher.proofs.Places.{selects_iff}
use Rattle.descent.specs.Places.{passes_by, name_at, Stepped, Can}
use Rattle.descent.specs.Lines.{LineIs, passes_test_by}
use Rattle.descent.proofs.Places.{names_long, at_level, can_step}

-- ---- a step that is read

module _ {d : List ℕ} {at : ℕ} {y : PlacedStep} (h : StepHere d at y) where
  pub passes_here : (n : List ℕ) → passes_by d y.name y.len n ≡ passes_name h.step n
  passes_here n = go h.step.test refl h.proper.test
    where
      go : (x : Test) → h.step.test ≡ x → ProperTest x → passes_by d y.name y.len n ≡ passes n h.step.test
      go any e p = let z : y.len ≡ 0 = h.size ∙ ap test_size e in rw (z, e)
      go (named m) e p =
          let z : y.len ≡ length m = h.size ∙ ap test_size e in
          let l = name_long m p.name in
          let u : y.len ≡ 0 → ⊥ = λ q. omega arith in
          rw (ne_eqb y.len 0 u, h.bytes m e, e)

-- its name is inside the list
pub step_name : (d : List ℕ) (at : ℕ) {r : Maybe PlacedStep} → r ≡ step_end_at d at → {y : PlacedStep} → r ≡ Some y
    → y.name + y.len ≤ length d
unfolding step_end_at print_step
step_name d at q {y} f = go (step_at (drop at d)) refl (sym f ∙ q)
  where
    size : (x : Test) → test_size x ≤ length (print_test x)
    size any = omega arith
    size (named m) = omega arith

    go : (o : Option Step) → step_at (drop at d) ≡ o → Some y ≡ step_placed at o → y.name + y.len ≤ length d
    go none e z = absurd (let z : ◌≡◌ {A = ℕ} 0 1 = cc in omega arith)
    go (some x) e z =
        let a : y.name ≡ at + length (print_kind x.kind) = cc in
        let b : y.len ≡ test_size x.test = cc in
        let i = read_inside step_undoes step_long d at e in
        let u = size x.test in
        let w = length-append (print_kind x.kind) (print_test x.test) in
        omega arith

-- ---- the steps of a line

-- those read so far can have the places of `can`
pub record Walking (list d starts lens : List ℕ) (level from i : ℕ) (can : List Bool) : Type 0 where
  pub done : List Step
  pub every : (steps (drop from list)).all ≡ done ++ (steps (drop i list)).all
  pub left : (steps (drop i list)).rest ≡ (steps (drop from list)).rest
  pub places : Can (root_first (names_of d starts lens level)) level done can
  pub begun : from ≤ i
  pub inside : i ≤ length list

-- "before the first step is place 0"
first_places : (names : List (List ℕ)) (level : ℕ) → Can names level [] (set (replicate 65 false) 0 true)
first_places names level =
    record { long = length-set (replicate 65 false) 0 true ∙ length-replicate 65 false; each = λ p l. go p }
  where
    far : (p : ℕ) → get_or (set (replicate 65 false) 0 true) (suc p) false ≡ false
    far p =
        get_or-set_other (replicate 65 false) 0 (suc p) true false (λ e. omega arith) ∙ none_there 65 (suc p)
      where
        none_there : (n p : ℕ) → get_or (replicate n false) p false ≡ false
        none_there zero p = refl
        none_there (suc n) zero = refl
        none_there (suc n) (suc p) = none_there n p

    go : (p : ℕ) → (get_or (set (replicate 65 false) 0 true) p false ≡ true) ↔ Reaches PassesName names [] p
    go zero = (λ e. ([], all), λ r. get_or-set_same (replicate 65 false) 0 true false (omega (arith, length-replicate 65 false)))
    go (suc p) = (
      λ e. absurd (false≢true (sym (far p) ∙ e)),
      λ r. absurd (let z = reach_none PassesName names r in omega arith),
    )

same_bool : (a b : Bool) {P : Type 0} → ((a ≡ true) ↔ P) → (P ↔ (b ≡ true)) → a ≡ b
same_bool true true p q = refl
same_bool true false p q = sym (q.0 (p.0 refl))
same_bool false true p q = p.1 (q.1 refl)
same_bool false false p q = refl

module _ {list d starts lens : List ℕ} {level from : ℕ} where
  pub walk_start : from ≤ length list → Walking list d starts lens level from from (set (replicate 65 false) 0 true)
  walk_start l =
      record {
        done = [];
        every = refl;
        left = refl;
        places = first_places (root_first (names_of d starts lens level)) level;
        begun = omega arith;
        inside = l;
      }

  module _ {i : ℕ} {can : List Bool} (w : Walking list d starts lens level from i can) where
    pub walk_places : length can ≡ 65
    walk_places = w.places.long

    module _ {r : Maybe PlacedStep} (q : r ≡ step_end_at list i) where
      module _ {y : PlacedStep} (f : r ≡ Some y) where
        here : StepHere list i y
        here = step_here list i q f

        pub walk_less : length list - y.end < length list - i
        walk_less = omega (arith, here.on, here.inside)

        pub walk_name : y.name + y.len ≤ length list
        walk_name = step_name list i q f

        pub walk_on : {can' : List Bool} → Stepped y.kind (passes_by list y.name y.len) (name_at d starts lens) level can can'
            → Walking list d starts lens level from y.end can'
        walk_on {can'} t =
            record {
              done = w.done ++ here.step ∷ [];
              every =
                  w.every
                  ∙ ap (λ (y : Run Step). w.done ++ y.all) here.runs
                  ∙ sym (append_assoc w.done (here.step ∷ []) (steps (drop y.end list)).all);
              left = sym (ap (λ (y : Run Step). y.rest) here.runs) ∙ w.left;
              places =
                  can_step (root_first (names_of d starts lens level)) level (name_at d starts lens) (at_level d starts lens level)
                  w.done here.step (passes_by list y.name y.len) (passes_here here) w.places
                  (subst (λ (k : Kind). Stepped k (passes_by list y.name y.len) (name_at d starts lens) level can can') here.kind t);
              begun = omega (arith, w.begun, here.on);
              inside = here.inside;
            }

      pub walk_end : r ≡ None → {b : Bool} → b ≡ get_or can level false
          → LineIs list from (root_first (names_of d starts lens level)) b i
      walk_end f {b} e =
          let n = steps_none (drop i list) (step_none list i q f) in
          let names = root_first (names_of d starts lens level) in
          let a : (steps (drop from list)).all ≡ w.done =
          w.every ∙ ap (λ (y : Run Step). w.done ++ y.all) n ∙ append-nil w.done in
          record {
            selects_is =
                e
                ∙ same_bool (get_or can level false) (selects w.done names) (w.places.each level (omega arith))
                (subst (λ (k : ℕ). Reaches PassesName names w.done k ↔ (selects w.done names ≡ true)) (names_long d starts lens level)
                (selects_iff w.done names))
                ∙ ap (λ (ss : List Step). selects ss names) (sym a);
            rest_is = sym w.left ∙ ap (λ (y : Run Step). y.rest) n;
            begun = w.begun;
            inside = w.inside;
          }

pub ruleset walking = (walk_start, walk_places, walk_less, walk_name, walk_on, walk_end)

-- ---- the test of a line

module _ (list : List ℕ) (name len value size : ℕ) (xs : List Attribute) where
  pub test_none : len ≡ 0 → true ≡ passes_test_by list name len value size xs
  test_none e = rw e

  pub test_read : (len ≡ 0 → ⊥) → {b : Bool}
      → b ≡ has_attribute xs (take (name + len - name) (drop name list)) (take (value + size - value) (drop value list))
      → b ≡ passes_test_by list name len value size xs
  test_read n e =
      let y : name + len - name ≡ len = omega arith in
      let z : value + size - value ≡ size = omega arith in
      rw (ne_eqb len 0 n) (rw (y, z) at e)

pub ruleset testing = (test_none, test_read)

-- ---- the lines of a sound list

-- `selected` and `marked` tell of the paths before this place, and with those from here on of all
pub record Saying (list : List ℕ) (names : List (List ℕ)) (xs : List Attribute) (at : ℕ) (selected marked : Bool) : Type 0 where
  pub any_is : selected || some_of (λ p. picks p names xs) (lines (drop at list)).all ≡ some_of (λ p. picks p names xs) (list_paths list)
  pub marked_is : marked || some_of (λ p. p.marked && picks p names xs) (lines (drop at list)).all
      ≡ some_of (λ p. p.marked && picks p names xs) (list_paths list)
  pub rest_is : (lines (drop at list)).rest ≡ []
  pub inside : at ≤ length list

pub say_start : {list : List ℕ} {names : List (List ℕ)} {xs : List Attribute} → list_answer list ≡ Ok tt
    → Saying list names xs 0 false false
say_start {list} {names} {xs} e =
    let q = sound_lines list e in
    record {
      any_is = ap (λ (r : Run Path). some_of (λ p. picks p names xs) r.all) q;
      marked_is = ap (λ (r : Run Path). some_of (λ p. p.marked && picks p names xs) r.all) q;
      rest_is = ap (λ (r : Run Path). r.rest) q;
      inside = omega arith;
    }

module _ {list : List ℕ} {names : List (List ℕ)} {xs : List Attribute} {at : ℕ} {selected marked : Bool}
    (v : Saying list names xs at selected marked) where
  pub say_end : length list ≤ at → {r : Verdict} → r ≡ decided marked selected → r ≡ verdict_of (list_paths list) names xs
  unfolding verdict_of
  say_end l e =
      let n : lines (drop at list) ≡ record { all = []; rest = [] } = ap lines (drop_end list at l) ∙ lines_none [] sound_nil in
      let a = sym (or-false selected) ∙ ap (λ (r : Run Path). selected || some_of (λ p. picks p names xs) r.all) (sym n) ∙ v.any_is in
      let b = sym (or-false marked)
      ∙ ap (λ (r : Run Path). marked || some_of (λ p. p.marked && picks p names xs) r.all) (sym n) ∙ v.marked_is in
      rw (← a, ← b) e

  module _ (l : at < length list) {sel : Bool} {end : ℕ} (w : LineIs list at names sel end) where
    line : LineHere list at
    line = line_here list at v.rest_is l

    ends : end_at (drop end list) ≡ some (ending_of line.path)
    ends = ap end_at (sym w.rest_is) ∙ line.has_end

    module _ {r : Maybe LineEnd} (q : r ≡ line_end_at list end) where
      -- a sound list has no such line
      pub say_fault : r ≡ None → {w : Verdict} → w ≡ verdict_of (list_paths list) names xs
      say_fault f = absurd (none-ne-some _ (sym (end_none list end q f) ∙ ends))

      module _ {y : LineEnd} (g : r ≡ Some y) where
        here_ends : EndHere list end y
        here_ends = end_here list end q g

        ending_is : here_ends.ending ≡ ending_of line.path
        ending_is = some-injective _ _ (sym here_ends.found ∙ ends)

        bounds : (y.name + y.len ≤ y.next) × (y.value + y.size ≤ y.next)
        bounds = go here_ends.ending.test here_ends.ending.marked here_ends.placed here_ends.ends
          where
            go : (x : Option AttributeTest) (m : Bool)
                → Some y ≡ Some (ended end x m (end + length (print_end (record { test = x; marked = m }))))
                → y.next ≡ end + length (print_end (record { test = x; marked = m }))
                → (y.name + y.len ≤ y.next) × (y.value + y.size ≤ y.next)
            go none m z e =
                let a : y.name ≡ 0 = cc in
                let b : y.len ≡ 0 = cc in
                let c : y.value ≡ 0 = cc in
                let s : y.size ≡ 0 = cc in
                (omega arith, omega arith)
            go (some x) m z e =
                let a : y.name ≡ end + 2 = cc in
                let b : y.len ≡ length x.name = cc in
                let c : y.value ≡ end + 2 + length x.name + 2 = cc in
                let s : y.size ≡ length x.value = cc in
                let t : length (print_end (record { test = some x; marked = m }))
                ≡ 2 + (length x.name + (2 + (length x.value + 2))) + length (print_mark m ++ bytes "\n") =
                simp length-append (omega arith) in
                (omega arith, omega arith)

        pub say_name : y.name + y.len ≤ length list
        say_name = omega (arith, bounds.0, here_ends.inside)

        pub say_value : y.value + y.size ≤ length list
        say_value = omega (arith, bounds.1, here_ends.inside)

        pub say_less : length list - y.next < length list - at
        say_less = omega (arith, here_ends.on, here_ends.inside, w.begun)

        test_is : passes_test_by list y.name y.len y.value y.size xs ≡ passes_test line.path.test xs
        test_is =
            go here_ends.ending.test refl
            ∙ ap (λ (y : Ending). passes_test y.test xs) ending_is
          where
            go : (x : Option AttributeTest) → here_ends.ending.test ≡ x
                → passes_test_by list y.name y.len y.value y.size xs ≡ passes_test here_ends.ending.test xs
            go none e = rw (e, here_ends.untested e)
            go (some x) e =
                let t = here_ends.tested x e in
                let u : y.len ≡ 0 → ⊥ = λ z. omega (arith, t.some) in
                rw (ne_eqb y.len 0 u, t.named, t.valued, e)

        next_is : y.next ≡ at + length (print_line line.path)
        next_is =
            here_ends.ends
            ∙ ap (λ (y : Ending). end + length (print_end y)) ending_is
            ∙ sym (line_ends list at end (ending_of line.path) w.begun w.inside w.rest_is)
            ∙ ap (λ (ss : List Step). at + length (print_line (path_of ss (ending_of line.path)))) line.has_steps

        runs : lines (drop at list) ≡ cons line.path (lines (drop y.next list))
        runs = line.runs ∙ ap (λ (k : ℕ). cons line.path (lines (drop k list))) (sym next_is)

        module _ {t : Bool} (et : t ≡ passes_test_by list y.name y.len y.value y.size xs) where
          picks_is : sel && t ≡ picks line.path names xs
          picks_is =
              and_comm sel t
              ∙ ap (λ (b : Bool). b && sel) (et ∙ test_is)
              ∙ ap (λ (b : Bool). passes_test line.path.test xs && b)
              (w.selects_is ∙ ap (λ (ss : List Step). selects ss names) line.has_steps)

          mark_is : (sel && t) && y.marked ≡ line.path.marked && picks line.path names xs
          mark_is =
              and_comm (sel && t) y.marked
              ∙ ap (λ (b : Bool). b && (sel && t)) (here_ends.mark ∙ ap (λ (y : Ending). y.marked) ending_is)
              ∙ ap (λ (b : Bool). line.path.marked && b) picks_is

          pub say_more : Saying list names xs y.next (selected || (sel && t)) (marked || ((sel && t) && y.marked))
          say_more =
              record {
                any_is =
                    or_assoc selected (sel && t) _
                    ∙ ap (λ (b : Bool). selected || (b || some_of (λ p. picks p names xs) (lines (drop y.next list)).all)) picks_is
                    ∙ ap (λ (r : Run Path). selected || some_of (λ p. picks p names xs) r.all) (sym runs)
                    ∙ v.any_is;
                marked_is =
                    or_assoc marked ((sel && t) && y.marked) _
                    ∙ ap (λ (b : Bool). marked || (b || some_of (λ p. p.marked && picks p names xs) (lines (drop y.next list)).all)) mark_is
                    ∙ ap (λ (r : Run Path). marked || some_of (λ p. p.marked && picks p names xs) r.all) (sym runs)
                    ∙ v.marked_is;
                rest_is = sym (ap (λ (r : Run Path). r.rest) runs) ∙ v.rest_is;
                inside = here_ends.inside;
              }

pub ruleset saying = (say_start, say_end, say_fault, say_name, say_value, say_less, say_more)
