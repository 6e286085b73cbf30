-- Where the test of a path of a sound list stands: right behind its steps, where the line's end is read with the places of the test's name
-- and value. First what is read there; then the entry of a path, and what stands at it.
use mathlib.Core.Path.{◌≡◌, refl, sym, ap, ◌∙◌}
use mathlib.Core.Bool.{Bool}
use mathlib.Core.List.{List, [], ◌∷◌, ◌++◌, append-nil}
use mathlib.Core.Option.{Option as Maybe, none, some, some-injective}
use Prim.Native.Nat.{ℕ, zero, suc, ◌+◌, ◌≤◌, ◌<◌}
use native.Mathlib.Omega.{arith}
use lib.ListN.{length, take, drop, get_or, length-append}
use lib.Seq.{drop_at}
use Rattle.std.specs.Prelude.{Option, Some}
use Rattle.paths.specs.Path.{AttributeTest, Step, print_step, print_all, print_list}
use Rattle.paths.specs.Reader.{Ending, end_at, ending_of, print_end}
use Rattle.paths.specs.Place.{ended, end_placed, line_end_at}
use Rattle.paths.specs.Judge.{list_paths}
use Rattle.paths.specs.declared.LineEnd.{LineEnd}
use Rattle.paths.proofs.Steps.{step_long}
use Rattle.paths.proofs.Lines.{end_undoes}
use Rattle.paths.proofs.Here.{end_here}
use Rattle.compiled.specs.Compiled.{test_place, tests_of}
use Rattle.compiled.specs.Line.{AtPath, tail_of, if_tested}
use Rattle.compiled.proofs.Tests.{test_begins, tests_entry}
use Rattle.compiled.proofs.InLine.{print_parts, whole, path_good, path_bytes}

-- ---- `if_tested`

pub tested_place : {name place : ℕ} → (name ≡ 0 → ⊥) → place ≡ if_tested name place
tested_place {name} {place} h = go name h
  where
    go : (n : ℕ) → (n ≡ 0 → ⊥) → place ≡ if_tested n place
    go zero h = absurd (h refl)
    go (suc n) h = refl

pub ruleset testing = (tested_place)

-- ---- a line's end, read

-- the place of the name in a test that begins at a place: 0 for no test
abbrev pub name_place : Maybe AttributeTest → ℕ → ℕ
name_place none at = 0
name_place (some x) at = at + 2

pub place_tested : (x : Maybe AttributeTest) (at : ℕ) → if_tested (name_place x at) at ≡ test_place x at
place_tested none at = refl
place_tested (some x) at = let z : at + 2 ≡ suc (at + 1) = omega arith in rw z

ended_tail : (x : Maybe AttributeTest) (at : ℕ) (m : Bool) (n : ℕ)
    → tail_of (Some (ended at x m n)) at ≡ record { test = name_place x at; marked = m; next = n }
ended_tail none at m n = refl
ended_tail (some x) at m n = refl

module _ {d : List ℕ} {p : ℕ} (v : AtPath d p) where
  abbrev at : ℕ
  at = test_begins v.done v.path

  abbrev before : List ℕ
  before = print_list v.done ++ print_all print_step v.path.steps

  abbrev after : List ℕ
  after = print_end (ending_of v.path) ++ print_list v.rest

  parts : d ≡ before ++ after
  parts =
      sym (whole v) ∙ print_parts v.done v.path v.rest v.path.steps [] (sym (append-nil v.path.steps))

  before_long : length before ≡ at
  before_long = length-append (print_list v.done) (print_all print_step v.path.steps)

  end_found : end_at (drop at d) ≡ some (ending_of v.path)
  end_found =
      let f : drop at d ≡ after = ap (drop at) parts ∙ drop_at before after at before_long in
      rw f (end_undoes.complete (ending_of v.path) (print_list v.rest) (path_good v).path.test tt)

  end_stands : line_end_at d at ≡ end_placed at (some (ending_of v.path))
  unfolding line_end_at
  end_stands = ap (end_placed at) end_found

  -- read at a place that is known to be it
  pub tail_stands : (i : ℕ) → i ≡ at → tail_of (line_end_at d i) i
      ≡ record { test = name_place v.path.test i; marked = v.path.marked; next = i + length (print_end (ending_of v.path)) }
  tail_stands i q = rw q (ap (λ (e : Option LineEnd). tail_of e at) end_stands ∙ ended_tail v.path.test at v.path.marked _)

  pub end_below : at < 65536
  end_below =
      let a = ap length parts ∙ length-append before after in
      let b = before_long in
      let c = path_bytes v in
      omega arith

-- ---- a test

end_long : (x : Maybe AttributeTest) (y : AttributeTest) (m : Bool) → x ≡ some y
    → length y.name + length y.value + 4 ≤ length (print_end (record { test = x; marked = m }))
end_long x y m e = rw e (simp length-append (omega arith))

-- the line's end at a place is read with the places of the name and value of x
pub record TestAt (d : List ℕ) (at : ℕ) (x : AttributeTest) : Type 0 where
  pub end : LineEnd
  pub ends : line_end_at d at ≡ Some end
  pub named : take end.len (drop end.name d) ≡ x.name
  pub valued : take end.size (drop end.value d) ≡ x.value
  pub name_in : end.name + end.len ≤ length d
  pub value_in : end.value + end.size ≤ length d

module _ {d : List ℕ} {p : ℕ} (v : AtPath d p) where
  -- the entry of the path
  pub test_entry : get_or (tests_of (list_paths d)) p 0 ≡ test_place v.path.test (test_begins v.done v.path)
  test_entry = rw (v.all, v.p_is) (tests_entry v.done v.path v.rest)

  -- is nowhere 0
  pub test_some : 0 < test_begins v.done v.path
  test_some = go v.path.steps (path_good v).path.some
    where
      go : (ss : List Step) → 0 < length ss → 0 < length (print_list v.done) + length (print_all print_step ss)
      go [] l = absurd (let z : 0 < 0 = l in omega arith)
      go (s ∷ ss) l = let y = step_long s in let z = length-append (print_step s) (print_all print_step ss) in omega arith

  -- and there the test stands
  pub test_stands : (x : AttributeTest) → v.path.test ≡ some x → TestAt d (test_begins v.done v.path) x
  test_stands x e =
      let a = test_begins v.done v.path in
      let n = a + length (print_end (ending_of v.path)) in
      let q : line_end_at d a ≡ Some (ended a (some x) v.path.marked n) =
      end_stands v ∙ ap (λ (y : Maybe AttributeTest). Some (ended a y v.path.marked n)) e in
      let h = end_here d a refl q in
      let t = h.tested x (ap (λ (y : Ending). y.test) (some-injective _ _ (sym h.found ∙ end_found v)) ∙ e) in
      let l = end_long v.path.test x v.path.marked e in
      let i = h.inside in
      record {
        end = ended a (some x) v.path.marked n;
        ends = q;
        named = t.named;
        valued = t.valued;
        name_in = omega arith;
        value_in = omega arith;
      }
