-- What an answer at a place says, for whoever walks a list. In order: a step that is there, or none; a line's end; where a line ends; the
-- lines of a sound list.
use mathlib.Core.Path.{◌≡◌, refl, sym, ap, ◌∙◌}
use mathlib.Core.Bool.{Bool, true, false, cond, ◌&&◌}
use mathlib.Core.List.{List, [], ◌∷◌, ◌++◌, append_assoc}
use mathlib.Core.Option.{Option as Maybe, none, some, none-ne-some, some-injective}
use Prim.Native.Nat.{ℕ, ◌+◌, ◌≤◌, ◌<◌}
use native.Mathlib.Omega.{arith}
use lib.Dec.{leb}
use lib.ListN.{length, take, drop, length-append, length-drop}
use lib.Seq.{drop-drop, take-append_seam, drop-append_seam}
use Rattle.std.specs.Prelude.{Option, None, Some, Ok}
use Rattle.xml.specs.Notation.{bytes}
use Rattle.paths.specs.Path.{Test, named, Step, AttributeTest, Path, test_size}
use Rattle.paths.specs.Path.{print_kind, print_test, print_step, print_all, print_mark, print_line, Proper, ProperAttribute, IfAny, Good}
use Rattle.paths.specs.Answer.{Says, sound}
use Rattle.paths.specs.Reader.{Run, cons, step_at, steps, Ending, ending_of, print_end, end_at, path_of, with_end, line_at}
use Rattle.paths.specs.Judge.{small_test, within, small_only, sound_at, lines, list_answer, list_paths}
use Rattle.paths.specs.Place.{step_placed, step_end_at, value_from, end_placed, line_end_at}
use Rattle.paths.specs.declared.Step.{Step as PlacedStep}
use Rattle.paths.specs.declared.LineEnd.{LineEnd}
use Rattle.paths.proofs.Print.{read_inside, read_prints, run_cons}
use Rattle.paths.proofs.Names.{name_long}
use Rattle.paths.proofs.Attributes.{print_tested, test_print}
use Rattle.paths.proofs.Steps.{step_undoes, step_long, steps_found}
use Rattle.paths.proofs.Lines.{end_undoes, end_long, line_long, sound_undoes, sound_nil, lines_none, lines_whole}
use Rattle.paths.proofs.Meaning.{says}

-- ---- a step

-- from at to its end stands the step y, of its kind, and its name is so many bytes at its place; a run of steps goes on behind it
pub record StepHere (d : List ℕ) (at : ℕ) (y : PlacedStep) : Type 0 where
  pub step : Step
  pub found : step_at (drop at d) ≡ some step
  pub proper : Proper step
  pub prints : drop at d ≡ print_step step ++ drop y.end d
  pub kind : y.kind ≡ step.kind
  pub size : y.len ≡ test_size step.test
  pub bytes : (n : List ℕ) → step.test ≡ named n → take y.len (drop y.name d) ≡ n
  pub on : at < y.end
  pub inside : y.end ≤ length d
  pub runs : steps (drop at d) ≡ cons step (steps (drop y.end d))

name_bytes : (d : List ℕ) (at : ℕ) (x : Step) → step_at (drop at d) ≡ some x → (n : List ℕ) → x.test ≡ named n
    → take (test_size x.test) (drop (at + length (print_kind x.kind)) d) ≡ n
unfolding print_step
name_bytes d at x e n h =
    let p = step_undoes.sound (drop at d) x e in
    let k = print_kind x.kind in
    let q : drop at d ≡ k ++ (n ++ p.rest) =
    p.prints ∙ append_assoc k (print_test x.test) p.rest ∙ ap (λ (y : Test). k ++ (print_test y ++ p.rest)) h in
    let z : drop (at + length k) d ≡ n ++ p.rest =
    sym (drop-drop (length k) at d) ∙ ap (drop (length k)) q ∙ drop-append_seam k (n ++ p.rest) in
    ap (λ (y : Test). take (test_size y) (drop (at + length k) d)) h ∙ ap (take (length n)) z ∙ take-append_seam n p.rest

module _ (d : List ℕ) (at : ℕ) {r : Option PlacedStep} (q : r ≡ step_end_at d at) where
  pub step_none : r ≡ None → step_at (drop at d) ≡ none
  unfolding step_end_at
  step_none f = go (step_at (drop at d)) (sym f ∙ q)
    where
      go : (o : Maybe Step) → None ≡ step_placed at o → o ≡ none
      go none z = refl
      go (some x) z = absurd (let z : ◌≡◌ {A = ℕ} 0 1 = cc in omega arith)

  pub step_here : {y : PlacedStep} → r ≡ Some y → StepHere d at y
  unfolding step_end_at steps
  step_here {y} f = go (step_at (drop at d)) refl (sym f ∙ q)
    where
      here : (x : Step) → step_at (drop at d) ≡ some x → y.kind ≡ x.kind → y.name ≡ at + length (print_kind x.kind)
          → y.len ≡ test_size x.test → y.end ≡ at + length (print_step x) → StepHere d at y
      here x e a b c h =
          let l = step_long x in
          let i = read_inside step_undoes step_long d at e in
          record {
            step = x;
            found = e;
            proper = (step_undoes.sound (drop at d) x e).ok;
            prints = read_prints step_undoes step_long d at e ∙ ap (λ (n : ℕ). print_step x ++ drop n d) (sym h);
            kind = a;
            size = c;
            bytes = rw (b, c) (name_bytes d at x e);
            on = omega arith;
            inside = omega arith;
            runs = run_cons step_undoes step_long d at e ∙ ap (λ (n : ℕ). cons x (steps (drop n d))) (sym h);
          }

      go : (o : Maybe Step) → step_at (drop at d) ≡ o → Some y ≡ step_placed at o → StepHere d at y
      go none e z = absurd (let z : ◌≡◌ {A = ℕ} 0 1 = cc in omega arith)
      go (some x) e z = here x e (cc) (cc) (cc) (cc)

-- ---- a line's end

-- the test x stands with its name, len bytes, and its value, size bytes, at these places
pub record TestHere (d : List ℕ) (x : AttributeTest) (name len value size : ℕ) : Type 0 where
  pub named : take len (drop name d) ≡ x.name
  pub valued : take size (drop value d) ≡ x.value
  pub some : 0 < len

-- from at to the next line stands the end of a line, y, with its mark, and with a test just if the length of its name is not 0
pub record EndHere (d : List ℕ) (at : ℕ) (y : LineEnd) : Type 0 where
  pub ending : Ending
  pub found : end_at (drop at d) ≡ some ending
  pub proper : IfAny ProperAttribute ending.test
  pub placed : Some y ≡ end_placed at (some ending)
  pub untested : ending.test ≡ none → y.len ≡ 0
  pub tested : (x : AttributeTest) → ending.test ≡ some x → TestHere d x y.name y.len y.value y.size
  pub mark : y.marked ≡ ending.marked
  pub small : (leb y.len 255 && leb y.size 255) ≡ small_test ending.test
  pub ends : y.next ≡ at + length (print_end ending)
  pub on : at < y.next
  pub inside : y.next ≤ length d

-- a part w of what stands at a place, and the place of that part
part_there : (d : List ℕ) (at : ℕ) (u w t : List ℕ) → drop at d ≡ u ++ (w ++ t) → take (length w) (drop (at + length u) d) ≡ w
part_there d at u w t q =
    let z : drop (at + length u) d ≡ w ++ t = sym (drop-drop (length u) at d) ∙ ap (drop (length u)) q ∙ drop-append_seam u (w ++ t) in
    ap (take (length w)) z ∙ take-append_seam w t

test_here : (d : List ℕ) (at : ℕ) (x : AttributeTest) (t : List ℕ) → drop at d ≡ print_tested x ++ t → ProperAttribute x
    → TestHere d x (at + 2) (length x.name) (value_from at x) (length x.value)
test_here d at x t q ok =
    let e = q ∙ test_print x t in
    let u = bytes "[@" ++ (x.name ++ bytes "=\"") in
    let z : bytes "[@" ++ (x.name ++ (bytes "=\"" ++ (x.value ++ (bytes "\"]" ++ t)))) ≡ u ++ (x.value ++ (bytes "\"]" ++ t)) =
    simp append_assoc in
    let n : length u ≡ 2 + length x.name + 2 = simp length-append (omega arith) in
    let l : at + length u ≡ at + 2 + length x.name + 2 = omega arith in
    record {
      named = part_there d at (bytes "[@") x.name _ e;
      valued = rw l at (part_there d at u x.value _ (e ∙ z));
      some = name_long x.name ok.name;
    }

module _ (d : List ℕ) (at : ℕ) {r : Option LineEnd} (q : r ≡ line_end_at d at) where
  pub end_none : r ≡ None → end_at (drop at d) ≡ none
  unfolding line_end_at
  end_none f = go (end_at (drop at d)) (sym f ∙ q)
    where
      go : (o : Maybe Ending) → None ≡ end_placed at o → o ≡ none
      go none z = refl
      go (some e) z = absurd (let z : ◌≡◌ {A = ℕ} 0 1 = cc in omega arith)

  pub end_here : {y : LineEnd} → r ≡ Some y → EndHere d at y
  unfolding line_end_at
  end_here {y} f = go (end_at (drop at d)) refl (sym f ∙ q)
    where
      here : (x : Maybe AttributeTest) (m : Bool) → end_at (drop at d) ≡ some (record { test = x; marked = m })
          → Some y ≡ end_placed at (some (record { test = x; marked = m })) → EndHere d at y
      here none m e z =
          let l = end_long (record { test = none; marked = m }) in
          let i = read_inside end_undoes end_long d at e in
          let n : y.next ≡ at + length (print_end (record { test = none; marked = m })) = cc in
          let a : y.len ≡ 0 = cc in
          let b : y.size ≡ 0 = cc in
          record {
            ending = record { test = none; marked = m };
            found = e;
            proper = tt;
            placed = z;
            untested = λ h. a;
            tested = λ x h. absurd (none-ne-some x h);
            mark = cc;
            small = rw (a, b);
            ends = n;
            on = omega arith;
            inside = omega arith;
          }
      here (some x) m e z =
          let p = end_undoes.sound (drop at d) (record { test = some x; marked = m }) e in
          let l = end_long (record { test = some x; marked = m }) in
          let i = read_inside end_undoes end_long d at e in
          let n : y.next ≡ at + length (print_end (record { test = some x; marked = m })) = cc in
          let a : y.name ≡ at + 2 = cc in
          let b : y.len ≡ length x.name = cc in
          let c : y.value ≡ value_from at x = cc in
          let s : y.size ≡ length x.value = cc in
          let t = print_mark m ++ bytes "\n" in
          let h = test_here d at x (t ++ p.rest) (p.prints ∙ append_assoc (print_tested x) t p.rest) p.ok in
          record {
            ending = record { test = some x; marked = m };
            found = e;
            proper = p.ok;
            placed = z;
            untested = λ h. absurd (none-ne-some x (sym h));
            tested = λ v k. rw (← some-injective _ _ k, a, b, c, s) h;
            mark = cc;
            small = rw (b, s);
            ends = n;
            on = omega arith;
            inside = omega arith;
          }

      go : (o : Maybe Ending) → end_at (drop at d) ≡ o → Some y ≡ end_placed at o → EndHere d at y
      go none e z = absurd (let z : ◌≡◌ {A = ℕ} 0 1 = cc in omega arith)
      go (some x) e z = here x.test x.marked e z

-- ---- where a line ends

-- the line that begins at `from`, has its steps up to the place at and the end e
pub line_ends : (d : List ℕ) (from at : ℕ) (e : Ending) → from ≤ at → at ≤ length d → (steps (drop from d)).rest ≡ drop at d
    → from + length (print_line (path_of (steps (drop from d)).all e)) ≡ at + length (print_end e)
unfolding print_line
line_ends d from at e b i q =
    let xs = (steps (drop from d)).all in
    let z : length (drop from d) ≡ length (print_all print_step xs) + length (drop at d) =
    ap length (steps_found (drop from d)).prints ∙ length-append (print_all print_step xs) _ ∙ rw q in
    let y : length (print_line (path_of xs e)) ≡ length (print_all print_step xs) + length (print_end e) =
    simp length-append (omega arith) in
    omega (arith, length-drop from d, length-drop at d)

-- ---- the lines of a sound list

-- at the place at a sound line begins: its steps, its end, and the run of lines behind it
pub record LineHere (d : List ℕ) (at : ℕ) : Type 0 where
  pub path : Path
  pub good : Good path
  pub has_steps : (steps (drop at d)).all ≡ path.steps
  pub has_end : end_at (steps (drop at d)).rest ≡ some (ending_of path)
  pub inside : at + length (print_line path) ≤ length d
  pub runs : lines (drop at d) ≡ cons path (lines (drop (at + length (print_line path)) d))

line_parts : (s : List ℕ) (p : Path) → sound_at s ≡ some p → ((steps s).all ≡ p.steps) × (end_at (steps s).rest ≡ some (ending_of p))
unfolding sound_at line_at
line_parts s p e = go (steps s).all (end_at (steps s).rest) e
  where
    test : (x : Step) (xs : List Step) (y : Ending) (b : Bool) → cond b (some (path_of (x ∷ xs) y)) none ≡ some p
        → (x ∷ xs ≡ p.steps) × (some y ≡ some (ending_of p))
    test x xs y true e = rw (← some-injective _ _ e) (refl, refl)
    test x xs y false e = absurd (none-ne-some p e)

    go : (xs : List Step) (o : Maybe Ending) → small_only (with_end xs o) ≡ some p → (xs ≡ p.steps) × (o ≡ some (ending_of p))
    go [] o e = absurd (none-ne-some p e)
    go (x ∷ xs) none e = absurd (none-ne-some p e)
    go (x ∷ xs) (some y) e = test x xs y (within (path_of (x ∷ xs) y)) e

-- where nothing but sound lines is left, a line begins if anything is left
pub line_here : (d : List ℕ) (at : ℕ) → (lines (drop at d)).rest ≡ [] → at < length d → LineHere d at
unfolding lines
line_here d at q l = go (sound_at (drop at d)) refl
  where
    go : (o : Maybe Path) → sound_at (drop at d) ≡ o → LineHere d at
    go none e =
        let z : drop at d ≡ [] = sym (ap (λ (r : Run Path). r.rest) (lines_none (drop at d) e)) ∙ q in
        absurd (omega (arith, ap length z, length-drop at d))
    go (some p) e =
        record {
          path = p;
          good = (sound_undoes.sound (drop at d) p e).ok;
          has_steps = (line_parts (drop at d) p e).0;
          has_end = (line_parts (drop at d) p e).1;
          inside = read_inside sound_undoes line_long d at e;
          runs = run_cons sound_undoes line_long d at e;
        }

-- the lines of a sound list are its paths, and nothing is left
pub sound_lines : (s : List ℕ) → list_answer s ≡ Ok tt → lines s ≡ record { all = list_paths s; rest = [] }
unfolding list_paths
sound_lines s e = rw e (go (rw e at (says s)))
  where
    go : Says s (Ok tt) → lines s ≡ record { all = (lines s).all; rest = [] }
    go (sound l ps b n) =
        let q = ap lines b.prints ∙ lines_whole ps [] b.good sound_nil in
        ap (λ (t : List ℕ). record { all = (lines s).all; rest = t }) (ap (λ (r : Run Path). r.rest) q)
