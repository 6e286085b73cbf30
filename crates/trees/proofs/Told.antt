-- The engine, run over the tokens of a sound document, writes its cut by the list and counts the elements selected; the sum taken over them
-- is the number of name tests tried. Then which names are open after each token.
use mathlib.Core.Path.{◌≡◌, refl, sym, ap, ◌∙◌}
use mathlib.Core.Bool.{true, false}
use mathlib.Core.List.{List, [], ◌∷◌}
use Prim.Native.Nat.{ℕ, ◌+◌}
use native.Mathlib.Omega.{arith}
use Rattle.std.specs.Prelude.{Ok}
use Rattle.xml.specs.Forest.{Name, Forest, nil, other, elem}
use Rattle.paths.specs.Judge.{list_paths}
use Rattle.document.specs.Judge.{scanned}
use Rattle.matcher.specs.declared.Verdict.{Verdict}
use Rattle.matcher.specs.declared.Verdict.TheVariants.{Unselected, Selected, Marked}
use Rattle.trees.specs.Cut.{tally}
use Rattle.trees.specs.Grown.{Token, finish, tokens, tokens_of, forest_of}
use Rattle.trees.specs.Written.{verdicts, cut_of, count_of, name_tests, tests_of}
use Rattle.trees.specs.Engine.{Engine, engine, begun, run, open_of, on_start, on_finish, on_aside, outer, tallied}
use Rattle.trees.proofs.Engine.{engine-cut}
use Rattle.trees.proofs.Nested.{sound_tokens}

pub run_cut : (list d : List ℕ) → scanned d ≡ Ok tt
    → run (verdicts (list_paths list)) (tokens_of d) begun ≡ engine false [] [] (cut_of list d) (count_of list d)
unfolding cut_of count_of
run_cut list d e =
    let v = verdicts (list_paths list) in
    ap (λ (ts : List Token). run v ts begun) (sym (sound_tokens d e)) ∙ engine-cut v (forest_of d)

-- ---- a sum over the elements

tallied_forest : (f : List Name → ℕ) (g : Forest) (up : List Name) (ts : List Token)
    → tallied f (tokens g ts) up ≡ tally f up g + tallied f ts up
tallied_forest f nil up ts = omega arith
tallied_forest f (other raw rest) up ts = tallied_forest f rest up ts
tallied_forest f (elem t kids close rest) up ts =
    let a = tallied_forest f kids (t.name ∷ up) (finish close ∷ tokens rest ts) in
    let b = tallied_forest f rest up ts in
    omega arith

pub run_tests : (list d : List ℕ) → scanned d ≡ Ok tt → tallied (name_tests (list_paths list)) (tokens_of d) [] ≡ tests_of list d
unfolding tests_of
run_tests list d e =
    let f = name_tests (list_paths list) in
    let a = tallied_forest f (forest_of d) [] [] in
    ap (λ (ts : List Token). tallied f ts []) (sym (sound_tokens d e)) ∙ (omega arith)

-- ---- the names that are open

-- a start tag opens its name
pub open_start : (w : Verdict) (n : Name) (h r : List ℕ) (x : Engine) → open_of (on_start w n h r x) ≡ n ∷ open_of x
open_start w n h r (engine true p d o c) = refl
open_start Marked n h r (engine false p d o c) = refl
open_start Selected n h r (engine false p d o c) = refl
open_start Unselected n h r (engine false [] [] o c) = refl
open_start Unselected n h r (engine false [] (u ∷ d) o c) = refl
open_start Unselected n h r (engine false (u ∷ p) d o c) = refl

-- an end tag goes back to those around
pub open_finish : (r : List ℕ) (x : Engine) → open_of (on_finish r x) ≡ outer (open_of x)
open_finish r (engine true (n ∷ p) d o c) = refl
open_finish r (engine false (n ∷ p) d o c) = refl
open_finish r (engine k [] (n ∷ d) o c) = refl
open_finish r (engine k [] [] o c) = refl

pub open_aside : (r : List ℕ) (x : Engine) → open_of (on_aside r x) ≡ open_of x
open_aside r (engine true p d o c) = refl
open_aside r (engine false p d o c) = refl
