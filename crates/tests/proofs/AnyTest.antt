-- What `any` says of a sound list: whether a path has a test.
-- Where none has, the list is untested.
use mathlib.Core.Path.{◌≡◌, refl, sym, ap, ◌∙◌}
use mathlib.Core.Bool.{Bool, false, not, ◌||◌}
use mathlib.Core.List.{List, [], ◌∷◌, ◌++◌}
use mathlib.Core.Option.{Option, none, some}
use Prim.Native.Nat.{ℕ, zero, suc, ◌+◌, ◌-◌, ◌<◌}
use native.Mathlib.Omega.{arith}
use borrow.Author.Tests.{ne_eqb}
use lib.Dec.{eqb}
use lib.ListN.{length, take, drop, replicate, length-append}
use Rattle.xml.proofs.Bools.{true-false}
use Rattle.paths.specs.Path.{AttributeTest, Step, Path, All, none as nil, more, Good, print_step, print_all, print_line}
use Rattle.paths.specs.Judge.{list_paths}
use Rattle.paths.proofs.Meaning.{paths_print}
use Rattle.paths.proofs.Steps.{step_long}
use Rattle.lookup.specs.Index.{padded}
use Rattle.compiled.specs.Compiled.{test_place, test_places, tests_of}
use Rattle.compiled.proofs.Lookup.{tests_part}
use Rattle.compiled.proofs.OverLines.{sound_sized}
use Rattle.matcher.specs.Fit.{Serves}
use Rattle.matcher.specs.Picked.{Untested}
use Rattle.tests.specs.Passing.{is_test, any_test, some_place}

zeros_none : (xs : List ℕ) (n : ℕ) → some_place (xs ++ replicate n 0) ≡ some_place xs
zeros_none [] zero = refl
zeros_none [] (suc n) = zeros_none [] n
zeros_none (x ∷ xs) n = ap (λ (b : Bool). not (eqb x 0) || b) (zeros_none xs n)

steps_long : (ss : List Step) → 0 < length ss → 0 < length (print_all print_step ss)
steps_long [] l = absurd (let z : 0 < 0 = l in omega arith)
steps_long (s ∷ ss) l = let y = step_long s in let z = length-append (print_step s) (print_all print_step ss) in omega arith

place_some : (x : Option AttributeTest) (at : ℕ) → 0 < at → not (eqb (test_place x at) 0) ≡ is_test x
place_some none at l = refl
place_some (some x) at l = rw (ne_eqb at 0 (λ e. omega arith))

places_some : (at : ℕ) (ps : List Path) → All Good ps → some_place (test_places at ps) ≡ any_test ps
places_some at [] nil = refl
places_some at (p ∷ ps) (more g gs) =
    let z = steps_long p.steps g.path.some in
    cc (place_some p.test (at + length (print_all print_step p.steps)) (omega arith), places_some (at + length (print_line p)) ps gs)

-- what `any` says
pub any_is : {d t : List ℕ} → Serves d t → some_place (take 32 (drop 18368 t)) ≡ any_test (list_paths d)
unfolding tests_of padded
any_is {d} {t} s =
    let ps = list_paths d in
    ap (λ (u : List ℕ). some_place (take 32 (drop 18368 u))) s.tables
    ∙ ap some_place (tests_part ps (sound_sized d s.sound))
    ∙ zeros_none (test_places 0 ps) (32 - length (test_places 0 ps))
    ∙ places_some 0 ps (paths_print d s.sound).1

pub untested_none : (ps : List Path) → any_test ps ≡ false → Untested ps
untested_none [] e = nil
untested_none (p ∷ ps) e = go p.test refl e (untested_none ps)
  where
    go : (x : Option AttributeTest) → p.test ≡ x → (is_test x || any_test ps) ≡ false → (any_test ps ≡ false → Untested ps)
        → Untested (p ∷ ps)
    go none q h later = more q (later h)
    go (some x) q h later = absurd (true-false refl h)

-- where `any` says no
pub any_untested : {d t : List ℕ} → Serves d t → false ≡ some_place (take 32 (drop 18368 t)) → Untested (list_paths d)
any_untested {d} s e = untested_none (list_paths d) (sym (e ∙ any_is s))
