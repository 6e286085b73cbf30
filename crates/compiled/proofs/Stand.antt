-- Each name of a list stands in its bytes at its place.
-- So the tables of a compiled list are those of its names.
use mathlib.Core.Path.{◌≡◌, refl}
use mathlib.Core.List.{List, [], ◌∷◌, ◌++◌, append_assoc}
use Prim.Native.Nat.{ℕ, ◌+◌}
use native.Mathlib.Omega.{arith}
use lib.ListN.{length, length-append}
use lib.Seq.{take_at, drop_at}
use Rattle.paths.specs.Path.{Test, any, named, Step, Path, All, none, more}
use Rattle.paths.specs.Path.{print_kind, print_test, print_step, print_all, print_attribute, print_mark, print_line, print_list}
use Rattle.xml.specs.Notation.{bytes}
use Rattle.lookup.specs.Names.{test_names, step_names, list_names, names_of, chains_of}
use Rattle.compiled.specs.Sizes.{Sized}
use Rattle.lookup.specs.Index.{Stands, Indexed}
use Rattle.compiled.specs.Compiled.{places_of, lengths_of}
use Rattle.compiled.proofs.Alls.{all_append}
use Rattle.compiled.proofs.Firsts.{names_all, names_once, names_few}

-- what is printed before, what the names stand in, what is printed after
test_stands : (w : List ℕ) (t : Test) (v : List ℕ) → All (Stands (w ++ (print_test t ++ v))) (test_names (length w) t)
test_stands w any v = none
test_stands w (named n) v =
    more {x = record { place = length w; name = n }}
    (record {
      inside = rw (length-append w (n ++ v), length-append n v) (omega arith);
      is = rw (drop_at w (n ++ v) (length w) refl) (take_at n v (length n) refl);
    })
    none

steps_stand : (w : List ℕ) (ss : List Step) (v : List ℕ) → All (Stands (w ++ (print_all print_step ss ++ v))) (step_names (length w) ss)
unfolding print_step
steps_stand w [] v = none
steps_stand w (s ∷ ss) v =
    let k = print_kind s.kind in
    let t = print_test s.test in
    let r = print_all print_step ss in
    let a : w ++ ((print_step s ++ r) ++ v) ≡ (w ++ k) ++ (t ++ (r ++ v)) = simp append_assoc in
    let b : w ++ ((print_step s ++ r) ++ v) ≡ (w ++ print_step s) ++ (r ++ v) = simp append_assoc in
    let c : All (Stands (w ++ ((print_step s ++ r) ++ v))) (test_names (length w + length k) s.test) =
    rw (a, ← length-append w k) (test_stands (w ++ k) s.test (r ++ v)) in
    let d : All (Stands (w ++ ((print_step s ++ r) ++ v))) (step_names (length w + length (print_step s)) ss) =
    rw (b, ← length-append w (print_step s)) (steps_stand (w ++ print_step s) ss v) in
    all_append c d

lists_stand : (w : List ℕ) (ps : List Path) → All (Stands (w ++ print_list ps)) (list_names (length w) ps)
unfolding print_list print_line
lists_stand w [] = none
lists_stand w (p ∷ ps) =
    let a = print_all print_step p.steps in
    let m = print_attribute p.test ++ print_mark p.marked ++ bytes "\n" in
    let f : w ++ print_list (p ∷ ps) ≡ w ++ (a ++ (m ++ print_list ps)) = simp append_assoc in
    let g : w ++ print_list (p ∷ ps) ≡ (w ++ print_line p) ++ print_list ps = simp append_assoc in
    let c : All (Stands (w ++ print_list (p ∷ ps))) (step_names (length w) p.steps) =
    rw f (steps_stand w p.steps (m ++ print_list ps)) in
    let d : All (Stands (w ++ print_list (p ∷ ps))) (list_names (length w + length (print_line p)) ps) =
    rw (g, ← length-append w (print_line p)) (lists_stand (w ++ print_line p) ps) in
    all_append c d

pub names_stand : (ps : List Path) → All (Stands (print_list ps)) (names_of ps)
names_stand ps = names_all ps (lists_stand [] ps)

pub paths_indexed : (ps : List Path) → Sized ps
    → Indexed (print_list ps) (places_of ps) (lengths_of ps) (chains_of (names_of ps)).head (chains_of (names_of ps)).next (names_of ps)
paths_indexed ps s =
    record {
      few = names_few ps s.few s.short;
      once = names_once ps;
      stand = names_stand ps;
      at_is = refl;
      len_is = refl;
      head_is = refl;
      next_is = refl;
    }
