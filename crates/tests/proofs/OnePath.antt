-- The laws of `passes`: by the column of last steps there is a path of the number or none; by its entry among the tests it has a test or
-- none; and what is read there is its test.
use mathlib.Core.Path.{◌≡◌, refl, sym, ap, ap₂, ◌∙◌}
use mathlib.Core.Bool.{Bool, true, false}
use mathlib.Core.List.{List, [], ◌∷◌, ◌++◌, map}
use mathlib.Core.Option.{Option as Maybe, none, some}
use Prim.Native.Nat.{ℕ, zero, suc, ◌+◌, ◌-◌, ◌^◌, ◌≤◌, ◌<◌}
use native.Mathlib.Omega.{arith}
use borrow.Author.Tests.{ltb-true, ltb-false}
use lib.Dec.{ltb}
use lib.ListN.{length, take, drop, get_or, length-map, get_or-eq_default}
use lib.Seq.{get_or-take, get_or-drop}
use Rattle.std.specs.Prelude.{Option, None, Some}
use Rattle.paths.specs.Path.{AttributeTest, Path}
use Rattle.paths.specs.Place.{line_end_at}
use Rattle.paths.specs.Judge.{list_paths}
use Rattle.paths.specs.declared.LineEnd.{LineEnd}
use Rattle.compiled.specs.Bits.{last_bit, lasts_of}
use Rattle.compiled.specs.Compiled.{test_place, tests_of, tables_of}
use Rattle.compiled.specs.Line.{AtPath}
use Rattle.compiled.proofs.Bits.{column_get}
use Rattle.compiled.proofs.InLine.{sound_bytes}
use Rattle.compiled.proofs.Lookup.{lasts_part, tests_part}
use Rattle.compiled.proofs.OverLines.{sound_sized}
use Rattle.compiled.proofs.Tests.{test_begins}
use Rattle.compiled.proofs.Tested.{TestAt, test_entry, test_some, test_stands}
use Rattle.attributes.specs.Attribute.{Attribute}
use Rattle.attributes.specs.Held.{has_attribute}
use Rattle.matcher.specs.Fit.{Serves}
use Rattle.matcher.specs.Pick.{passes_test}
use Rattle.matcher.proofs.Verdicts.{last_some}
use Rattle.tests.specs.Passing.{results, passes_at}

-- ---- a path by its number

record Split (ps : List Path) (p : ℕ) : Type 0 where
  pub done : List Path
  pub path : Path
  pub rest : List Path
  pub all : ps ≡ done ++ path ∷ rest
  pub p_is : p ≡ length done

split : (ps : List Path) (p : ℕ) → p < length ps → Split ps p
split [] p l = absurd (omega arith)
split (q ∷ ps) zero l = record { done = []; path = q; rest = ps; all = refl; p_is = refl }
split (q ∷ ps) (suc p) l =
    let s = split ps p (omega arith) in
    record {
      done = q ∷ s.done;
      path = s.path;
      rest = s.rest;
      all = ap (λ (l : List Path). q ∷ l) s.all;
      p_is = ap suc s.p_is;
    }

get_at : {A : Type 0} (f : Path → A) (x : A) (done : List Path) (q : Path) (rest : List Path)
    → get_or (map f (done ++ q ∷ rest)) (length done) x ≡ f q
get_at f x [] q rest = refl
get_at f x (p ∷ done) q rest = get_at f x done q rest

module _ {d : List ℕ} {p : ℕ} (v : AtPath d p) where
  got : {A : Type 0} (f : Path → A) (x : A) → get_or (map f (list_paths d)) p x ≡ f v.path
  got f x =
      ap (λ (k : ℕ). get_or (map f (list_paths d)) k x) v.p_is
      ∙ ap (λ (ps : List Path). get_or (map f ps) (length v.done) x) v.all
      ∙ get_at f x v.done v.path v.rest

-- ---- by the tables

-- the test of path p, which stands at the place, and decides
record PathTest (d : List ℕ) (p place : ℕ) : Type 0 where
  pub test : AttributeTest
  pub at : TestAt d place test
  pub passes : (xs : List Attribute) → passes_at (list_paths d) xs p ≡ has_attribute xs test.name test.value

module _ {d t : List ℕ} (s : Serves d t) {p : ℕ} (l : p < 32) where
  abbrev ps : List Path
  ps = list_paths d

  column : (i : ℕ) (r : List ℕ) → take 32 (drop i (tables_of ps)) ≡ r → get_or t (i + p) 0 ≡ get_or r p 0
  column i r e =
      ap (λ (u : List ℕ). get_or u (i + p) 0) s.tables
      ∙ sym (get_or-drop i (tables_of ps) p 0)
      ∙ sym (get_or-take 32 (drop i (tables_of ps)) p 0 l)
      ∙ ap (λ (u : List ℕ). get_or u p 0) e

  last_entry : get_or t (18304 + p) 0 ≡ get_or (map last_bit ps) p 0
  unfolding lasts_of
  last_entry = column 18304 (lasts_of ps) (lasts_part ps (sound_sized d s.sound)) ∙ column_get last_bit ps p

  test_is : get_or t (18368 + p) 0 ≡ get_or (tests_of ps) p 0
  test_is = column 18368 (tests_of ps) (tests_part ps (sound_sized d s.sound))

  at_path : p < length ps → AtPath d p
  at_path h =
      let w = split ps p h in
      record { sound = s.sound; done = w.done; path = w.path; rest = w.rest; all = w.all; p_is = w.p_is }

  past : {A : Type 0} (f : Path → A) (x : A) → length ps ≤ p → get_or (map f ps) p x ≡ x
  past f x h = get_or-eq_default (map f ps) x (rw (length-map ps f) h)

  -- no path
  pub passes_past : get_or t (18304 + p) 0 ≡ 0 → (xs : List Attribute) → false ≡ passes_at ps xs p
  unfolding passes_at
  passes_past e xs = go (ltb p (length ps)) refl
    where
      go : (b : Bool) → ltb p (length ps) ≡ b → false ≡ get_or (results ps xs) p false
      go true h =
          let v = at_path (ltb-true p (length ps) h) in
          let z = got v last_bit 0 in
          let y = last_some v.path in
          let x = last_entry in
          absurd (omega arith)
      go false h = sym (past (λ q. passes_test q.test xs) false (ltb-false p (length ps) h))

  module _ (n : get_or t (18304 + p) 0 ≡ 0 → ⊥) where
    there : p < length ps
    there = go (ltb p (length ps)) refl
      where
        go : (b : Bool) → ltb p (length ps) ≡ b → p < length ps
        go true h = ltb-true p (length ps) h
        go false h = absurd (n (last_entry ∙ past last_bit 0 (ltb-false p (length ps) h)))

    here : AtPath d p
    here = at_path there

    passes_here : (xs : List Attribute) → passes_at ps xs p ≡ passes_test here.path.test xs
    unfolding passes_at
    passes_here xs = got here (λ q. passes_test q.test xs) false

    entry : get_or t (18368 + p) 0 ≡ test_place here.path.test (test_begins here.done here.path)
    entry = test_is ∙ test_entry here

    -- no test
    pub passes_untested : get_or t (18368 + p) 0 ≡ 0 → (xs : List Attribute) → true ≡ passes_at ps xs p
    passes_untested e xs = sym (passes_here xs ∙ go here.path.test (sym entry ∙ e))
      where
        go : (x : Maybe AttributeTest) → test_place x (test_begins here.done here.path) ≡ 0 → passes_test x xs ≡ true
        go none q = refl
        go (some x) q = absurd (let z = test_some here in omega arith)

    -- a test
    module _ (m : get_or t (18368 + p) 0 ≡ 0 → ⊥) where
      path_test : PathTest d p (get_or t (18368 + p) 0)
      path_test = go here.path.test refl
        where
          go : (x : Maybe AttributeTest) → here.path.test ≡ x → PathTest d p (get_or t (18368 + p) 0)
          go none e = absurd (m (entry ∙ ap (λ (x : Maybe AttributeTest). test_place x (test_begins here.done here.path)) e))
          go (some x) e =
              let z : get_or t (18368 + p) 0 ≡ test_begins here.done here.path =
              entry ∙ ap (λ (x : Maybe AttributeTest). test_place x (test_begins here.done here.path)) e in
              record {
                test = x;
                at = rw z (test_stands here x e);
                passes = λ xs. passes_here xs ∙ ap (λ (x : Maybe AttributeTest). passes_test x xs) e;
              }

      module _ {r : Option LineEnd} (q : r ≡ line_end_at d (get_or t (18368 + p) 0)) where
        pub passes_fault : r ≡ None → (xs : List Attribute) → false ≡ passes_at ps xs p
        passes_fault f xs =
            let z : None ≡ Some path_test.at.end = sym f ∙ q ∙ path_test.at.ends in
            absurd (let y : ◌≡◌ {A = ℕ} 0 1 = cc in omega arith)

        module _ {y : LineEnd} (f : r ≡ Some y) where
          abbrev here_at : TestAt d (get_or t (18368 + p) 0) path_test.test
          here_at = path_test.at

          same : y ≡ here_at.end
          same = let z : Some y ≡ Some here_at.end = sym f ∙ q ∙ here_at.ends in cc

          pub name_fits : y.name + y.len ≤ length d
          name_fits = rw same here_at.name_in

          pub value_fits : y.value + y.size ≤ length d
          value_fits = rw same here_at.value_in

          -- and the sums fit 64 bits
          small : length d < 2 ^ 64
          small = let b = sound_bytes d s.sound in let p : 2 ^ 64 ≡ 18446744073709551616 = refl in omega arith

          pub name_sum : y.name + y.len < 2 ^ 64
          name_sum = let i = name_fits in let b = small in omega arith

          pub value_sum : y.value + y.size < 2 ^ 64
          value_sum = let i = value_fits in let b = small in omega arith

          part : (i o : ℕ) → take (i + o - i) (drop i d) ≡ take o (drop i d)
          part i o = let z : i + o - i ≡ o = omega arith in rw z

          pub passes_tested : (xs : List Attribute) {b : Bool}
              → b ≡ has_attribute xs (take (y.name + y.len - y.name) (drop y.name d)) (take (y.value + y.size - y.value) (drop y.value d))
              → b ≡ passes_at ps xs p
          passes_tested xs {b} h =
              let g : take (y.name + y.len - y.name) (drop y.name d) ≡ path_test.test.name =
              part y.name y.len ∙ ap (λ (x : LineEnd). take x.len (drop x.name d)) same ∙ here_at.named in
              let e : take (y.value + y.size - y.value) (drop y.value d) ≡ path_test.test.value =
              part y.value y.size ∙ ap (λ (x : LineEnd). take x.size (drop x.value d)) same ∙ here_at.valued in
              h ∙ ap₂ (has_attribute xs) g e ∙ sym (path_test.passes xs)

pub ruleset by_path = (passes_past, passes_untested, passes_fault, name_fits, value_fits, name_sum, value_sum, passes_tested)
