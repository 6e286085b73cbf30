-- "Repeated lines change nothing but count as lines." In order: two lists of which each is within the other judge every element the same,
-- `same_verdict`, and if accepted have the same outcome, `same_lists`; so have two of the same paths, `same_members`. A line put into a
-- sound list where another line covers it changes nothing, `covered_line`; so a repeated line, `repeated_lines` and `repeated_last`, and a
-- path unmarked beside the same path marked, `marked_wins`. `counted_lines`: such a list is accepted exactly when it has no more lines
-- and bytes than a list may have.
use mathlib.Core.Path.{◌≡◌, refl, sym, ap, fun_ext, ◌∙◌}
use mathlib.Core.Bool.{true, false, false≢true}
use mathlib.Core.List.{List, [], ◌∷◌, ◌++◌, append_assoc, append-nil}
use mathlib.Core.Logic.{◌⊎◌, inl, inr, ◌↔◌}
use mathlib.Core.Option.{Option}
use Prim.Native.Nat.{ℕ, suc, ◌≤◌, ◌<◌}
use lib.ListN.{length}
use Rattle.std.specs.Prelude.{Ok}
use Rattle.xml.specs.Forest.{Name, render}
use Rattle.attributes.specs.Attribute.{Attribute}
use Rattle.paths.specs.Path.{Step, AttributeTest, Path, print_line, print_list, All, none, more, Good}
use Rattle.paths.specs.Answer.{Before, Says, sound}
use Rattle.paths.specs.Judge.{list_answer, list_paths}
use Rattle.paths.proofs.Meaning.{says, says_only, paths_print, print_once}
use Rattle.matcher.specs.Says.{Some, this, later, verdict_of}
use Rattle.matcher.specs.declared.Verdict.{Verdict}
use Rattle.matcher.specs.declared.Verdict.TheVariants.{Unselected, Selected, Marked}
use Rattle.document.specs.Judge.{judge_of}
use Rattle.trees.specs.Cut.{Judge, count, cut}
use Rattle.trees.specs.Grown.{forest_of}
use Rattle.trees.specs.Written.{root_first, verdicts, cut_of, count_of, tests_of}
use Rattle.trees.proofs.Same.{AtMost}
use Rattle.cutter.specs.Answer.{answer_of, bytes_after}
use Rattle.demands.specs.Repeated.{Stands, AllStand, with_line, SameNumbers, SameOutcome}
use Rattle.demands.specs.Within.{StandsAs, Within}
use Rattle.demands.proofs.Tried.{numbers_same, bytes_same}
use Rattle.demands.proofs.Narrow.{within_most}

-- ---- two lists, each within the other

at_most_both : (x y : Verdict) → AtMost x y → AtMost y x → x ≡ y
at_most_both Unselected Selected l m = elim m [ ]
at_most_both Unselected Marked l m = elim m [ ]
at_most_both Selected Unselected l m = elim l [ ]
at_most_both Selected Marked l m = elim m [ ]
at_most_both Marked Unselected l m = elim l [ ]
at_most_both Marked Selected l m = elim l [ ]
at_most_both Unselected Unselected l m = refl
at_most_both Selected Selected l m = refl
at_most_both Marked Marked l m = refl

pub same_verdict : (ps qs : List Path) → Within ps qs → Within qs ps → (names : List Name) (xs : List Attribute)
    → verdict_of ps names xs ≡ verdict_of qs names xs
same_verdict ps qs l m names xs =
    at_most_both (verdict_of ps names xs) (verdict_of qs names xs) (within_most ps qs l names xs) (within_most qs ps m names xs)

pub same_verdicts : (ps qs : List Path) → Within ps qs → Within qs ps → verdicts ps ≡ verdicts qs
unfolding verdicts
same_verdicts ps qs l m = fun_ext (λ up. fun_ext (λ xs. same_verdict ps qs l m (root_first up) xs))

module _ (list list' : List ℕ) (l : Within (list_paths list) (list_paths list')) (m : Within (list_paths list') (list_paths list)) where
  pub same_cut : (d : List ℕ) → cut_of list d ≡ cut_of list' d
  unfolding cut_of
  same_cut d = ap (λ (v : Judge). render (cut v [] (forest_of d))) (same_verdicts (list_paths list) (list_paths list') l m)

  pub same_count : (d : List ℕ) → count_of list d ≡ count_of list' d
  unfolding count_of
  same_count d = ap (λ (v : Judge). count v [] (forest_of d)) (same_verdicts (list_paths list) (list_paths list') l m)

pub same_lists : (list list' : List ℕ) → list_answer list ≡ Ok tt → list_answer list' ≡ Ok tt
    → Within (list_paths list) (list_paths list') → Within (list_paths list') (list_paths list) → SameOutcome list list'
unfolding answer_of bytes_after
same_lists list list' p q l m = record { answer_same = answers; bytes_same = buffers }
  where
    answers : (d : List ℕ) (room : ℕ) → SameNumbers (answer_of list d room) (answer_of list' d room)
    answers d room =
        rw (p, q, same_cut list list' l m d, same_count list list' l m d)
        (numbers_same (Ok tt) (judge_of d) room (cut_of list' d) (count_of list' d) (tests_of list d) (tests_of list' d))

    buffers : (d o : List ℕ) → bytes_after list d o ≡ bytes_after list' d o
    buffers d o =
        rw (p, q, same_cut list list' l m d, same_count list list' l m d)
        (bytes_same (Ok tt) (judge_of d) (cut_of list' d) (count_of list' d) (tests_of list d) (tests_of list' d) o)

-- ---- a line put into a list of paths

module _ {A : Type 0} (P : A → Type 0) (x : A) where
  some_put : (xs ys : List A) → Some P (xs ++ ys) → Some P (xs ++ x ∷ ys)
  some_put [] ys s = later s
  some_put (z ∷ xs) ys (this h) = this h
  some_put (z ∷ xs) ys (later s) = later (some_put xs ys s)

  some_taken : (xs ys : List A) → Some P (xs ++ x ∷ ys) → P x ⊎ Some P (xs ++ ys)
  some_taken [] ys (this h) = inl h
  some_taken [] ys (later s) = inr s
  some_taken (z ∷ xs) ys (this h) = inr (this h)
  some_taken (z ∷ xs) ys (later s) = go (some_taken xs ys s)
    where
      go : P x ⊎ Some P (xs ++ ys) → P x ⊎ Some P (z ∷ xs ++ ys)
      go (inl h) = inl h
      go (inr s) = inr (later s)

  all_put : (xs ys : List A) → All P (xs ++ ys) → P x → All P (xs ++ x ∷ ys)
  all_put [] ys hs h = more h hs
  all_put (z ∷ xs) ys (more k hs) h = more k (all_put xs ys hs h)

length_put : {A : Type 0} (x : A) (xs ys : List A) → length (xs ++ x ∷ ys) ≡ suc (length (xs ++ ys))
length_put x [] ys = refl
length_put x (z ∷ xs) ys = ap suc (length_put x xs ys)

some_each : {A : Type 0} {P Q : A → Type 0} → ((x : A) → P x → Q x) → {xs : List A} → Some P xs → Some Q xs
some_each f (this {x = x} h) = this (f x h)
some_each f (later s) = later (some_each f s)

all_each : {A : Type 0} {P Q : A → Type 0} → ((x : A) → P x → Q x) → {xs : List A} → All P xs → All Q xs
all_each f none = none
all_each f (more {x = x} h hs) = more (f x h) (all_each f hs)

stands_covers : {p : Path} {ps : List Path} → Stands p ps → Some (λ q. StandsAs p q) ps
stands_covers {p} =
    some_each (λ q e.
    record { steps_same = ap (λ (r : Path). r.steps) e; test_same = ap (λ (r : Path). r.test) e; marked_too = λ m. rw e m })

within_by : (ns ws : List Path) → ((p : Path) → Stands p ns → Some (λ q. StandsAs p q) ws) → Within ns ws
within_by [] ws f = none
within_by (p ∷ ns) ws f = more (f p (this refl)) (within_by ns ws (λ q s. f q (later s)))

within_put : (p : Path) (xs ys : List Path) → Within (xs ++ ys) (xs ++ p ∷ ys)
within_put p xs ys = within_by (xs ++ ys) (xs ++ p ∷ ys) (λ r s. stands_covers (some_put _ p xs ys s))

put_within : (p : Path) (xs ys : List Path) → Some (λ q. StandsAs p q) (xs ++ ys) → Within (xs ++ p ∷ ys) (xs ++ ys)
put_within p xs ys c = within_by (xs ++ p ∷ ys) (xs ++ ys) (λ r s. go r (some_taken _ p xs ys s))
  where
    go : (r : Path) → (p ≡ r) ⊎ Stands r (xs ++ ys) → Some (λ q. StandsAs r q) (xs ++ ys)
    go r (inl e) = rw e at c
    go r (inr s) = stands_covers s

-- a path that stands among others, once more: every element is judged the same
pub repeated_verdict : (xs ys : List Path) (p : Path) → Stands p (xs ++ ys) → (names : List Name) (borne : List Attribute)
    → verdict_of (xs ++ p ∷ ys) names borne ≡ verdict_of (xs ++ ys) names borne
repeated_verdict xs ys p s = same_verdict (xs ++ p ∷ ys) (xs ++ ys) (put_within p xs ys (stands_covers s)) (within_put p xs ys)

-- whether a path is good does not hang on its mark
good_covered : {p : Path} {ps : List Path} → Some (λ q. StandsAs p q) ps → All Good ps → Good p
good_covered (this c) (more g gs) =
    record {
      path =
          record {
            some = rw c.steps_same at g.path.some;
            each = rw c.steps_same at g.path.each;
            test = rw c.test_same at g.path.test;
          };
      within =
          record {
            steps = rw c.steps_same at g.within.steps;
            names = rw c.steps_same at g.within.names;
            test = rw c.test_same at g.within.test;
          };
    }
good_covered (later s) (more g gs) = good_covered s gs

-- two accepted lists of the same paths, in any order and each as often as it likes
pub same_members : (list list' : List ℕ) → list_answer list ≡ Ok tt → list_answer list' ≡ Ok tt
    → AllStand (list_paths list) (list_paths list')
    → AllStand (list_paths list') (list_paths list) → SameOutcome list list'
same_members list list' p q l m = same_lists list list' p q (all_each (λ r. stands_covers) l) (all_each (λ r. stands_covers) m)

-- ---- a line put into a list

prints_put : (p : Path) (xs ys : List Path) → print_list (xs ++ p ∷ ys) ≡ with_line xs p ys
unfolding print_list
prints_put p [] ys = refl
prints_put p (z ∷ xs) ys =
    ap (λ (v : List ℕ). print_line z ++ v) (prints_put p xs ys)
    ∙ simp append_assoc

-- the lines of the sound list are those of `xs` and then those of `ys`; between them a line is put that one of them covers
module _ (list : List ℕ) (xs ys : List Path) (p : Path) (accepted : list_answer list ≡ Ok tt) (lines : list_paths list ≡ xs ++ ys)
    (covered : Some (λ q. StandsAs p q) (xs ++ ys)) where
  all_good : All Good (xs ++ p ∷ ys)
  all_good =
      let g : All Good (xs ++ ys) = rw lines at (paths_print list accepted).1 in
      all_put Good p xs ys g (good_covered covered g)

  put_paths : list_answer (with_line xs p ys) ≡ Ok tt
      → list_paths (with_line xs p ys) ≡ xs ++ p ∷ ys
  put_paths e =
      let z = paths_print (with_line xs p ys) e in
      print_once _ (xs ++ p ∷ ys) z.1 all_good (z.0 ∙ sym (prints_put p xs ys))

  pub covered_line : list_answer (with_line xs p ys) ≡ Ok tt
      → SameOutcome list (with_line xs p ys)
  covered_line e =
      same_lists list (with_line xs p ys) accepted e
      (rw (lines, put_paths e) (within_put p xs ys))
      (rw (lines, put_paths e) (put_within p xs ys covered))

  -- "but count as lines"
  pub counted_lines : (list_answer (with_line xs p ys) ≡ Ok tt)
      ↔ ((length (xs ++ ys) < 32) × (length (with_line xs p ys) ≤ 8192))
  counted_lines = (taken, given)
    where
      size : {s : List ℕ} → Says s (Ok tt) → length s ≤ 8192
      size (sound l ps b n) = l

      taken : list_answer (with_line xs p ys) ≡ Ok tt
          → (length (xs ++ ys) < 32) × (length (with_line xs p ys) ≤ 8192)
      taken e =
          let n = (paths_print (with_line xs p ys) e).2 in
          (rw (put_paths e, length_put p xs ys) at n, size (rw e at (says (with_line xs p ys))))

      given : (length (xs ++ ys) < 32) × (length (with_line xs p ys) ≤ 8192)
          → list_answer (with_line xs p ys) ≡ Ok tt
      given h =
          let b : Before (with_line xs p ys) (xs ++ p ∷ ys) [] =
          record { prints = sym (append-nil (print_list (xs ++ p ∷ ys)) ∙ prints_put p xs ys); good = all_good } in
          says_only (with_line xs p ys) (Ok tt) (sound h.1 (xs ++ p ∷ ys) b (rw (length_put p xs ys) h.0))

-- "Repeated lines change nothing": a line that stands in the list, once more, anywhere; and at the end
pub repeated_lines : (list : List ℕ) (xs ys : List Path) (p : Path) → list_answer list ≡ Ok tt → list_paths list ≡ xs ++ ys
    → Stands p (xs ++ ys) → list_answer (with_line xs p ys) ≡ Ok tt → SameOutcome list (with_line xs p ys)
repeated_lines list xs ys p accepted lines s = covered_line list xs ys p accepted lines (stands_covers s)

pub repeated_last : (list : List ℕ) (p : Path) → list_answer list ≡ Ok tt → Stands p (list_paths list)
    → list_answer (list ++ print_line p) ≡ Ok tt → SameOutcome list (list ++ print_line p)
unfolding print_list
repeated_last list p accepted s e =
    let q : with_line (list_paths list) p [] ≡ list ++ print_line p =
    append-nil (print_list (list_paths list) ++ print_line p) ∙ ap (λ (v : List ℕ). v ++ print_line p) (paths_print list accepted).0 in
    let l = sym (append-nil (list_paths list)) in
    rw q at (repeated_lines list (list_paths list) [] p accepted l (rw (append-nil (list_paths list)) s) (rw q e))

-- the same path, with the same test, once marked and once not is as if it stood there marked alone
pub marked_wins : (list : List ℕ) (xs ys : List Path) (steps : List Step) (test : Option AttributeTest)
    → list_answer list ≡ Ok tt → list_paths list ≡ xs ++ ys
    → Stands (record { steps = steps; test = test; marked = true }) (xs ++ ys)
    → list_answer (with_line xs (record { steps = steps; test = test; marked = false }) ys) ≡ Ok tt
    → SameOutcome list (with_line xs (record { steps = steps; test = test; marked = false }) ys)
marked_wins list xs ys steps test accepted lines s =
    covered_line list xs ys (record { steps = steps; test = test; marked = false }) accepted lines
    (some_each (λ q e.
    record {
      steps_same = ap (λ (r : Path). r.steps) e;
      test_same = ap (λ (r : Path). r.test) e;
      marked_too = λ m. absurd (false≢true m);
    }) s)
