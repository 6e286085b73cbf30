-- Laws of the places of the tests:
-- how many there are, one more path, the entry of a path, and that each lies within the list.
use mathlib.Core.Path.{◌≡◌, refl, sym, ap, ◌∙◌}
use mathlib.Core.List.{List, [], ◌∷◌, ◌++◌}
use mathlib.Core.Option.{Option, none, some}
use Prim.Native.Nat.{ℕ, suc, ◌+◌, ◌≤◌, ◌<◌}
use native.Mathlib.Nat.{add-zero}
use native.Mathlib.Omega.{arith}
use lib.ListN.{length, get_or, set, length-append}
use Rattle.paths.specs.Path.{AttributeTest, Path, print_step, print_all, print_line, print_list}
use Rattle.paths.specs.Path.{All, none as nil, more}
use Rattle.lookup.specs.Index.{padded}
use Rattle.lookup.proofs.Padded.{padded_long, padded_get, padded_snoc}
use Rattle.compiled.specs.Compiled.{test_place, test_places, tests_of}

-- the place where the steps of a path end, behind the paths before it
abbrev pub steps_end : ℕ → List Path → Path → ℕ
steps_end at done q = at + length (print_list done) + length (print_all print_step q.steps)

ends_nil : (at : ℕ) (q : Path) → steps_end at [] q ≡ at + length (print_all print_step q.steps)
unfolding print_list
ends_nil at q = rw (add-zero at)

ends_more : (at : ℕ) (p : Path) (done : List Path) (q : Path) → steps_end at (p ∷ done) q ≡ steps_end (at + length (print_line p)) done q
unfolding print_list
ends_more at p done q = let z = length-append (print_line p) (print_list done) in omega arith

places_many : (at : ℕ) (ps : List Path) → length (test_places at ps) ≡ length ps
places_many at [] = refl
places_many at (p ∷ ps) = ap suc (places_many (at + length (print_line p)) ps)

places_snoc : (at : ℕ) (ps : List Path) (q : Path)
    → test_places at (ps ++ q ∷ []) ≡ test_places at ps ++ test_place q.test (steps_end at ps q) ∷ []
places_snoc at [] q = rw (ends_nil at q)
places_snoc at (p ∷ ps) q =
    rw (ends_more at p ps q)
    (ap (λ (l : List ℕ). test_place p.test (at + length (print_all print_step p.steps)) ∷ l)
    (places_snoc (at + length (print_line p)) ps q))

places_entry : (at : ℕ) (done : List Path) (q : Path) (rest : List Path)
    → get_or (test_places at (done ++ q ∷ rest)) (length done) 0 ≡ test_place q.test (steps_end at done q)
places_entry at [] q rest = rw (ends_nil at q)
places_entry at (p ∷ done) q rest = rw (ends_more at p done q) (places_entry (at + length (print_line p)) done q rest)

-- no test begins behind the list
steps_inside : (p : Path) → length (print_all print_step p.steps) ≤ length (print_line p)
unfolding print_line
steps_inside p = simp length-append (omega arith)

pub places_below : (b at : ℕ) (ps : List Path) → at + length (print_list ps) < b → All (λ x. x < b) (test_places at ps)
unfolding print_list
places_below b at [] l = nil
places_below b at (p ∷ ps) l =
    let z = length-append (print_line p) (print_list ps) in
    let y = steps_inside p in
    more (go p.test (omega arith)) (places_below b (at + length (print_line p)) ps (omega arith))
  where
    go : (x : Option AttributeTest) → at + length (print_all print_step p.steps) < b
        → test_place x (at + length (print_all print_step p.steps)) < b
    go none h = omega arith
    go (some x) h = h

-- ---- the table

pub tests_long : (ps : List Path) → length ps ≤ 32 → length (tests_of ps) ≡ 32
unfolding tests_of
tests_long ps l = padded_long 32 (test_places 0 ps) (rw (places_many 0 ps) l)

abbrev pub test_begins : List Path → Path → ℕ
test_begins done q = length (print_list done) + length (print_all print_step q.steps)

from_zero : (done : List Path) (q : Path) → steps_end 0 done q ≡ test_begins done q
from_zero done q = omega arith

tests_snoc : (ps : List Path) (q : Path) → length ps < 32
    → set (tests_of ps) (length ps) (test_place q.test (test_begins ps q)) ≡ tests_of (ps ++ q ∷ [])
unfolding tests_of
tests_snoc ps q l =
    rw (← from_zero ps q)
    (ap (λ (k : ℕ). set (padded 32 (test_places 0 ps)) k (test_place q.test (steps_end 0 ps q))) (sym (places_many 0 ps))
    ∙ padded_snoc 32 (test_places 0 ps) (test_place q.test (steps_end 0 ps q)) (rw (places_many 0 ps) l)
    ∙ ap (padded 32) (sym (places_snoc 0 ps q)))

-- the place of one more path's test is stored
pub tests_stored : (done : List Path) (q : Path) → length done < 32 → {l : List ℕ} {k x : ℕ} → l ≡ tests_of done → k ≡ length done
    → x ≡ test_place q.test (test_begins done q) → set l k x ≡ tests_of (done ++ q ∷ [])
tests_stored done q h a b c = rw (a, b, c) (tests_snoc done q h)

pub tests_get : (ps : List Path) (i : ℕ) → get_or (tests_of ps) i 0 ≡ get_or (test_places 0 ps) i 0
unfolding tests_of
tests_get ps i = padded_get 32 (test_places 0 ps) i

pub tests_entry : (done : List Path) (q : Path) (rest : List Path)
    → get_or (tests_of (done ++ q ∷ rest)) (length done) 0 ≡ test_place q.test (test_begins done q)
tests_entry done q rest =
    tests_get (done ++ q ∷ rest) (length done) ∙ places_entry 0 done q rest ∙ ap (test_place q.test) (from_zero done q)
