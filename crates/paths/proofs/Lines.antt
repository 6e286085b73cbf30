-- The readers of lines give back what was printed. In order: a line's end, with its test and its mark; lines; sizes as a test; sound lines,
-- and runs of them.
use mathlib.Core.Path.{◌≡◌, refl, sym, ap, ◌∙◌}
use mathlib.Core.Bool.{Bool, true, false, cond}
use mathlib.Core.List.{List, [], ◌∷◌, ◌++◌, append_assoc}
use mathlib.Core.Option.{Option, none, some, none-ne-some, some-injective}
use Prim.Native.Nat.{ℕ, ◌≤◌, ◌<◌}
use native.Mathlib.Omega.{arith}
use borrow.Author.Tests.{leb-true, le-leb}
use lib.Dec.{leb}
use lib.ListN.{length, drop, length-append}
use lib.Seq.{drop-append_seam}
use Rattle.xml.specs.Notation.{bytes}
use Rattle.xml.specs.Character.{begins, starts}
use Rattle.xml.specs.Productions.{is_name, is_name_start, is_name_more}
use Rattle.xml.proofs.Bools.{and_left, and_right, and_both}
use Rattle.xml.proofs.Character.{begins_split}
use Rattle.paths.specs.Path.{Test, any, named, Step, AttributeTest, Path, test_size}
use Rattle.paths.specs.Path.{print_kind, print_step, print_all, print_mark, print_attribute, print_line, print_list}
use Rattle.paths.specs.Path.{All, none as nil, more, Proper, ProperAttribute, IfAny, IsPath, SmallAttribute, Within, Good}
use Rattle.paths.specs.Reader.{Run, kind_at, step_at, steps, attribute_at, Ending, ending_of, print_end, mark_at, with_mark, behind, end_at}
use Rattle.paths.specs.Reader.{path_of, with_end, line_at}
use Rattle.paths.specs.Judge.{small_names, small_test, within, small_only, sound_at, lines}
use Rattle.paths.specs.declared.Kind.{Kind}
use Rattle.paths.proofs.Print.{Printed, Undoes, Found, prepend, reads_nil, run_none, run_found, run_print, run_whole}
use Rattle.paths.proofs.Names.{name_ends}
use Rattle.paths.proofs.Attributes.{print_tested, attribute_undoes}
use Rattle.paths.proofs.Steps.{Free, AnyRest, kind_slash, AfterTest, AfterStep, step_undoes, step_long, steps_found}

-- ---- a line's end

abbrev print_tail : Bool → List ℕ
print_tail m = print_mark m ++ bytes "\n"

mark_undoes : Undoes print_tail Free AnyRest mark_at
unfolding mark_at
mark_undoes =
    record {
      sound = λ s m e. go s (begins (bytes " #\n") s) (begins (bytes "\n") s) refl refl m e;
      complete = λ m t u v. back m t;
    }
  where
    go : (s : List ℕ) (x y : Bool) → begins (bytes " #\n") s ≡ x → begins (bytes "\n") s ≡ y → (m : Bool)
        → cond x (some true) (cond y (some false) none) ≡ some m → Printed print_tail Free AnyRest s m
    go s true y p q m e =
        rw (← some-injective _ _ e)
        (record { rest = drop 3 s; prints = begins_split (bytes " #\n") s p; ok = tt; after = tt })
    go s false true p q m e =
        rw (← some-injective _ _ e)
        (record { rest = drop 1 s; prints = begins_split (bytes "\n") s q; ok = tt; after = tt })
    go s false false p q m e = absurd (none-ne-some m e)

    back : (m : Bool) (t : List ℕ) → mark_at (print_tail m ++ t) ≡ some m
    back true t = refl
    back false t = refl

-- no test stands where the mark or LF does
mark_no_test : (m : Bool) (t : List ℕ) → attribute_at (print_tail m ++ t) ≡ none
unfolding attribute_at
mark_no_test true t = refl
mark_no_test false t = refl

abbrev pub ProperEnd : Ending → Type 0
ProperEnd e = IfAny ProperAttribute e.test

pub end_undoes : Undoes print_end ProperEnd AnyRest end_at
unfolding end_at
end_undoes =
    record {
      sound = λ s e h. by_test s (attribute_at s) refl e h;
      complete = λ e t ok u. back e.test e.marked t ok;
    }
  where
    by_mark : (s : List ℕ) (x : Option AttributeTest) (u : List ℕ) → s ≡ print_attribute x ++ u → IfAny ProperAttribute x
        → (o : Option Bool) → mark_at u ≡ o → (e : Ending) → with_mark x o ≡ some e → Printed print_end ProperEnd AnyRest s e
    by_mark s x u q ok none h e z = absurd (none-ne-some e z)
    by_mark s x u q ok (some m) h e z =
        let p = mark_undoes.sound u m h in
        rw (← some-injective _ _ z)
        (record {
          rest = p.rest;
          prints =
              q
              ∙ ap (λ (v : List ℕ). print_attribute x ++ v) p.prints
              ∙ sym (append_assoc (print_attribute x) (print_tail m) p.rest);
          ok = ok;
          after = tt;
        })

    by_test : (s : List ℕ) (o : Option AttributeTest) → attribute_at s ≡ o → (e : Ending) → behind s o ≡ some e
        → Printed print_end ProperEnd AnyRest s e
    by_test s none h e z = by_mark s none s refl tt (mark_at s) refl e z
    by_test s (some x) h e z =
        let p = attribute_undoes.sound s x h in
        let w = ap (drop (length (print_tested x))) p.prints ∙ drop-append_seam (print_tested x) p.rest in
        by_mark s (some x) p.rest p.prints p.ok (mark_at p.rest) refl e (rw w at z)

    back : (x : Option AttributeTest) (m : Bool) (t : List ℕ) → IfAny ProperAttribute x
        → end_at ((print_attribute x ++ print_tail m) ++ t) ≡ some (record { test = x; marked = m })
    back none m t ok = rw (mark_no_test m t, mark_undoes.complete m t tt tt)
    back (some x) m t ok =
        rw (
          append_assoc (print_tested x) (print_tail m) t,
          attribute_undoes.complete x (print_tail m ++ t) ok tt,
          drop-append_seam (print_tested x) (print_tail m ++ t),
          mark_undoes.complete m t tt tt,
        )

pub end_long : (e : Ending) → 0 < length (print_end e)
end_long e = simp length-append (omega arith)

-- no step stands there, and no name goes on there; nor does one before a step
pub end_no_step : (e : Ending) (t : List ℕ) → step_at (print_end e ++ t) ≡ none
unfolding step_at kind_at
end_no_step e t = go e.test e.marked
  where
    go : (x : Option AttributeTest) (m : Bool) → step_at ((print_attribute x ++ print_tail m) ++ t) ≡ none
    go none true = refl
    go none false = refl
    go (some x) m = refl

end_no_name : (e : Ending) (t : List ℕ) → starts is_name (print_end e ++ t) ≡ false
unfolding is_name is_name_start is_name_more
end_no_name e t = go e.test e.marked
  where
    go : (x : Option AttributeTest) (m : Bool) → starts is_name ((print_attribute x ++ print_tail m) ++ t) ≡ false
    go none true = name_ends 0x20 _ (omega arith) refl
    go none false = name_ends 0x0A _ (omega arith) refl
    go (some x) m = name_ends 0x5B _ (omega arith) refl

step_no_name : (k : Kind) (s : List ℕ) → starts is_name (print_kind k ++ s) ≡ false
unfolding is_name is_name_start is_name_more
step_no_name k s = rw (kind_slash k) (name_ends 0x2F _ (omega arith) refl)

-- ---- lines

pub after_step : (e : Ending) (t : List ℕ) (x : Step) (xs : List Step) → AfterStep x (print_all print_step xs ++ (print_end e ++ t))
unfolding print_step
after_step e t x xs = go x.test xs
  where
    go : (y : Test) (xs : List Step) → AfterTest y (print_all print_step xs ++ (print_end e ++ t))
    go any xs = tt
    go (named n) [] = end_no_name e t
    go (named n) (z ∷ zs) = rw (append_assoc, append_assoc) (step_no_name z.kind _)

pub line_print : (p : Path) (t : List ℕ) → print_line p ++ t ≡ print_all print_step p.steps ++ (print_end (ending_of p) ++ t)
unfolding print_line
line_print p t = simp append_assoc

pub line_long : (p : Path) → 0 < length (print_line p)
unfolding print_line
line_long p = simp length-append (omega arith)

pub with_end_lem : (xs : List Step) (e : Ending) → 0 < length xs → with_end xs (some e) ≡ some (path_of xs e)
with_end_lem [] e l = absurd (let z : 0 < 0 = l in omega arith)
with_end_lem (x ∷ xs) e l = refl

pub line_undoes : Undoes print_line IsPath AnyRest line_at
unfolding line_at steps
line_undoes =
    record {
      sound = λ s p e. go s (steps s) (steps_found s) p (end_at (steps s).rest) refl e;
      complete = λ p t ok u. back p t ok;
    }
  where
    ended : (s : List ℕ) (x : Step) (xs : List Step) (rest : List ℕ) → s ≡ print_all print_step (x ∷ xs) ++ rest → All Proper (x ∷ xs)
        → (p : Path) (o : Option Ending) → end_at rest ≡ o → with_end (x ∷ xs) o ≡ some p → Printed print_line IsPath AnyRest s p
    ended s x xs rest q ok p none h e = absurd (none-ne-some p e)
    ended s x xs rest q ok p (some y) h e =
        let l = end_undoes.sound rest y h in
        let line = line_print (path_of (x ∷ xs) y) l.rest in
        rw (← some-injective _ _ e)
        (record {
          rest = l.rest;
          prints = q ∙ ap (λ (v : List ℕ). print_all print_step (x ∷ xs) ++ v) l.prints ∙ sym line;
          ok = record { some = omega arith; each = ok; test = l.ok };
          after = tt;
        })

    go : (s : List ℕ) (r : Run Step) → Found print_step Proper step_at s r → (p : Path) (o : Option Ending) → end_at r.rest ≡ o
        → with_end r.all o ≡ some p → Printed print_line IsPath AnyRest s p
    go s r k p o h e = split r.all k.prints k.each e
      where
        split : (xs : List Step) → s ≡ print_all print_step xs ++ r.rest → All Proper xs → with_end xs o ≡ some p
            → Printed print_line IsPath AnyRest s p
        split [] q ok e = absurd (none-ne-some p e)
        split (x ∷ xs) q ok e = ended s x xs r.rest q ok p o h e

    back : (p : Path) (t : List ℕ) → IsPath p → line_at (print_line p ++ t) ≡ some p
    back p t ok =
        let e = ending_of p in
        let r = run_whole step_undoes step_long (print_end e ++ t) (after_step e t) p.steps ok.each (end_no_step e t) in
        rw (line_print p t, r, end_undoes.complete e t ok.test tt) (with_end_lem p.steps e ok.some)

-- ---- sizes as a test

small_all : (xs : List Step) → small_names xs ≡ true → All (λ s. test_size s.test ≤ 255) xs
small_all [] e = nil
small_all (x ∷ xs) e =
    let small = leb (test_size x.test) 255 in
    more (leb-true _ _ (and_left small _ e)) (small_all xs (and_right small _ e))

all_small : {xs : List Step} → All (λ s. test_size s.test ≤ 255) xs → small_names xs ≡ true
all_small nil = refl
all_small (more h hs) = rw (le-leb _ _ h) (all_small hs)

small_test_lem : (x : Option AttributeTest) → small_test x ≡ true → IfAny SmallAttribute x
small_test_lem none e = tt
small_test_lem (some x) e =
    let small = leb (length x.name) 255 in
    record { name = leb-true _ 255 (and_left small _ e); value = leb-true _ 255 (and_right small _ e) }

test_small : (x : Option AttributeTest) → IfAny SmallAttribute x → small_test x ≡ true
test_small none h = refl
test_small (some x) h = and_both _ _ (le-leb _ 255 h.name) (le-leb _ 255 h.value)

pub test_within : (p : Path) → within p ≡ true → Within p
unfolding within
test_within p e =
    let few = leb (length p.steps) 16 in
    let small = small_names p.steps in
    let h = and_right few _ e in
    record {
      steps = leb-true _ 16 (and_left few _ e);
      names = small_all p.steps (and_left small _ h);
      test = small_test_lem p.test (and_right small _ h);
    }

pub within_test : {p : Path} → Within p → within p ≡ true
unfolding within
within_test {p} w =
    and_both _ _ (le-leb (length p.steps) 16 w.steps) (and_both _ _ (all_small w.names) (test_small p.test w.test))

-- ---- sound lines, and runs of them

pub sound_undoes : Undoes print_line Good AnyRest sound_at
unfolding sound_at
sound_undoes =
    record {
      sound = λ s p e. go s (line_at s) refl p e;
      complete = λ p t ok u. rw (line_undoes.complete p t ok.path tt, within_test ok.within);
    }
  where
    test : (s : List ℕ) (q : Path) → line_at s ≡ some q → (b : Bool) → within q ≡ b → (p : Path) → cond b (some q) none ≡ some p
        → Printed print_line Good AnyRest s p
    test s q h false k p e = absurd (none-ne-some p e)
    test s q h true k p e =
        let l = line_undoes.sound s q h in
        let good : Good q = record { path = l.ok; within = test_within q k } in
        rw (← some-injective _ _ e) (record { rest = l.rest; prints = l.prints; ok = good; after = tt })

    go : (s : List ℕ) (o : Option Path) → line_at s ≡ o → (p : Path) → small_only o ≡ some p → Printed print_line Good AnyRest s p
    go s none h p e = absurd (none-ne-some p e)
    go s (some q) h p e = test s q h (within q) refl p e

pub sound_nil : sound_at [] ≡ none
sound_nil = reads_nil sound_undoes line_long

pub lines_found : (s : List ℕ) → Found print_line Good sound_at s (lines s)
unfolding lines
lines_found s = run_found sound_undoes line_long 0 s

pub lines_none : (s : List ℕ) → sound_at s ≡ none → lines s ≡ record { all = []; rest = s }
unfolding lines
lines_none s e = run_none print_line sound_at s e

-- the lines of what is printed, and then those of what follows
pub lines_print : (ps : List Path) (t : List ℕ) → All Good ps → lines (print_list ps ++ t) ≡ prepend ps (lines t)
unfolding lines print_list
lines_print ps t ok = run_print sound_undoes line_long t (λ x xs. tt) ps ok

pub lines_whole : (ps : List Path) (t : List ℕ) → All Good ps → sound_at t ≡ none
    → lines (print_list ps ++ t) ≡ record { all = ps; rest = t }
unfolding lines print_list
lines_whole ps t ok e = run_whole sound_undoes line_long t (λ x xs. tt) ps ok e
