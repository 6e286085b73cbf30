-- The names of a list each once:
-- every name of every step is one of them, and one more step adds its name where it is not there.
use mathlib.Core.Path.{◌≡◌, refl, ◌∙◌}
use mathlib.Core.List.{List, [], ◌∷◌, ◌++◌}
use Prim.Native.Nat.{ℕ, zero, suc, ◌+◌, ◌*◌, ◌≤◌}
use native.Mathlib.Omega.{arith}
use lib.ListN.{length, length-append}
use Rattle.paths.specs.Path.{Test, any, named, Step, Path, All, none, more, print_kind, print_step, print_line}
use Rattle.lookup.specs.Names.{Named, place_of, unless, firsts, test_names, step_names, list_names, names_of}
use Rattle.lookup.specs.Index.{Once, first, another}
use Rattle.compiled.proofs.Alls.{all_left, all_right}
use Rattle.lookup.proofs.Places.{Has, has_left, has_right, place_kept}

-- ---- names met

unless_has : (k : ℕ) (ns : List Named) (x : Named) (n : List ℕ) → Has ns n → Has (unless k ns x) n
unless_has zero ns x n h = has_left ns x n h
unless_has (suc k) ns x n h = h

unless_met : (ns : List Named) (x : Named) → Has (unless (place_of ns x.name) ns x) x.name
unless_met ns x = go (place_of ns x.name) refl
  where
    go : (k : ℕ) → place_of ns x.name ≡ k → Has (unless k ns x) x.name
    go zero e = has_right ns x
    go (suc k) e = λ z. omega arith

unless_once : {ns : List Named} (x : Named) → Once ns → Once (unless (place_of ns x.name) ns x)
unless_once {ns} x o = go (place_of ns x.name) refl
  where
    go : (k : ℕ) → place_of ns x.name ≡ k → Once (unless k ns x)
    go zero e = another x o e
    go (suc k) e = o

firsts_has : (xs ns : List Named) (n : List ℕ) → Has ns n → Has (firsts ns xs) n
firsts_has [] ns n h = h
firsts_has (x ∷ xs) ns n h =
    firsts_has xs (unless (place_of ns x.name) ns x) n (unless_has (place_of ns x.name) ns x n h)

firsts_met : (xs ns : List Named) → All (λ x. Has (firsts ns xs) x.name) xs
firsts_met [] ns = none
firsts_met (x ∷ xs) ns =
    more (firsts_has xs (unless (place_of ns x.name) ns x) x.name (unless_met ns x))
    (firsts_met xs (unless (place_of ns x.name) ns x))

firsts_once : (xs : List Named) {ns : List Named} → Once ns → Once (firsts ns xs)
firsts_once [] o = o
firsts_once (x ∷ xs) o = firsts_once xs (unless_once x o)

pub firsts_append : (xs ys ns : List Named) → firsts ns (xs ++ ys) ≡ firsts (firsts ns xs) ys
firsts_append [] ys ns = refl
firsts_append (x ∷ xs) ys ns = firsts_append xs ys (unless (place_of ns x.name) ns x)

-- a name that is there keeps its place
pub firsts_kept : (xs ns : List Named) (n : List ℕ) → Has ns n → place_of (firsts ns xs) n ≡ place_of ns n
firsts_kept [] ns n h = refl
firsts_kept (x ∷ xs) ns n h =
    let k = place_of ns x.name in
    firsts_kept xs (unless k ns x) n (unless_has k ns x n h) ∙ go k
  where
    go : (k : ℕ) → place_of (unless k ns x) n ≡ place_of ns n
    go zero = place_kept ns x n h
    go (suc k) = refl

-- what holds of each name holds of the first ones
firsts_all : {P : Named → Type 0} {xs ns : List Named} → All P ns → All P xs → All P (firsts ns xs)
firsts_all a none = a
firsts_all {P} {ns = ns} a (more {x} {xs} p b) = firsts_all (go (place_of ns x.name)) b
  where
    snoc : {ms : List Named} → All P ms → All P (ms ++ x ∷ [])
    snoc none = more p none
    snoc (more q c) = more q (snoc c)

    go : (k : ℕ) → All P (unless k ns x)
    go zero = snoc a
    go (suc k) = a

pub firsts_few : (xs ns : List Named) → length (firsts ns xs) ≤ length ns + length xs
firsts_few [] ns = omega arith
firsts_few (x ∷ xs) ns =
    let z = firsts_few xs (unless (place_of ns x.name) ns x) in
    let y = go (place_of ns x.name) in
    omega arith
  where
    go : (k : ℕ) → length (unless k ns x) ≤ length ns + 1
    go zero = rw (length-append ns (x ∷ [])) (omega arith)
    go (suc k) = omega arith

-- ---- the names of a list

abbrev pub HasTest : List Named → Test → Type 0
HasTest ns any = Unit {0}
HasTest ns (named m) = Has ns m

-- every step of every path
abbrev pub Steps : (Step → Type 0) → List Path → Type 0
Steps P ps = All (λ p. All P p.steps) ps

module _ (ns : List Named) where
  test_has : (at : ℕ) (t : Test) → All (λ x. Has ns x.name) (test_names at t) → HasTest ns t
  test_has at any a = tt
  test_has at (named m) (more h a) = h

  steps_have : (at : ℕ) (ss : List Step) → All (λ x. Has ns x.name) (step_names at ss) → All (λ s. HasTest ns s.test) ss
  steps_have at [] a = none
  steps_have at (s ∷ ss) a =
      let xs = test_names (at + length (print_kind s.kind)) s.test in
      let ys = step_names (at + length (print_step s)) ss in
      more (test_has (at + length (print_kind s.kind)) s.test (all_left xs ys a))
      (steps_have (at + length (print_step s)) ss (all_right xs ys a))

  paths_have : (at : ℕ) (ps : List Path) → All (λ x. Has ns x.name) (list_names at ps) → Steps (λ s. HasTest ns s.test) ps
  paths_have at [] a = none
  paths_have at (p ∷ ps) a =
      let xs = step_names at p.steps in
      let ys = list_names (at + length (print_line p)) ps in
      more (steps_have at p.steps (all_left xs ys a)) (paths_have (at + length (print_line p)) ps (all_right xs ys a))

pub names_have : (ps : List Path) → Steps (λ s. HasTest (names_of ps) s.test) ps
unfolding names_of
names_have ps = paths_have (names_of ps) 0 ps (firsts_met (list_names 0 ps) [])

pub names_once : (ps : List Path) → Once (names_of ps)
unfolding names_of
names_once ps = firsts_once (list_names 0 ps) first

pub names_all : {P : Named → Type 0} (ps : List Path) → All P (list_names 0 ps) → All P (names_of ps)
unfolding names_of
names_all ps a = firsts_all none a

-- ---- how many

test_few : (at : ℕ) (t : Test) → length (test_names at t) ≤ 1
test_few at any = omega arith
test_few at (named m) = omega arith

pub steps_few : (at : ℕ) (ss : List Step) → length (step_names at ss) ≤ length ss
steps_few at [] = omega arith
steps_few at (s ∷ ss) =
    let xs = test_names (at + length (print_kind s.kind)) s.test in
    let ys = step_names (at + length (print_step s)) ss in
    let a = test_few (at + length (print_kind s.kind)) s.test in
    let b = steps_few (at + length (print_step s)) ss in
    rw (length-append xs ys) (omega arith)

pub lists_few : (at : ℕ) (ps : List Path) → All (λ p. length p.steps ≤ 16) ps → length (list_names at ps) ≤ 16 * length ps
lists_few at [] none = omega arith
lists_few at (p ∷ ps) (more l a) =
    let xs = step_names at p.steps in
    let ys = list_names (at + length (print_line p)) ps in
    let b = steps_few at p.steps in
    let c = lists_few (at + length (print_line p)) ps a in
    rw (length-append xs ys) (omega arith)

pub names_few : (ps : List Path) → length ps ≤ 32 → All (λ p. length p.steps ≤ 16) ps → length (names_of ps) ≤ 512
unfolding names_of
names_few ps l s =
    let a = firsts_few (list_names 0 ps) [] in
    let b = lists_few 0 ps s in
    omega arith
