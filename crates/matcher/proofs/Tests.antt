-- The name tests tried at an element. `tests_told`: the matcher's number, from the state of the parent and the element's fit, is that of
-- the steps that are tried by document 02's words; `counted_one`: a number of things is one. In order: numbers of things; one path, whose
-- bits are as many as its steps tried; all paths, of which those past the last have none.
use mathlib.Core.Path.{◌≡◌, refl, sym, ap, ap₂, ◌∙◌, subst}
use mathlib.Core.Bool.{Bool, true, false, false≢true}
use mathlib.Core.List.{List, [], ◌∷◌, ◌++◌, map}
use mathlib.Core.Logic.{◌↔◌}
use Prim.Native.Nat.{ℕ, zero, suc, ◌+◌, ◌/◌, ◌%◌, ◌^◌, ◌≤◌, ◌<◌}
use native.Mathlib.Nat.{zero-add, add_assoc, pow-zero, two-pow-succ}
use native.Mathlib.Omega.{arith}
use lib.Bits.{and_zero_r}
use lib.Count.{ones, ones_step}
use lib.ListN.{length, length-append}
use Rattle.paths.specs.Path.{Step, Path, All, none as none_left, more}
use Rattle.compiled.specs.Kinds.{stays, goes}
use Rattle.compiled.specs.Bits.{bit, bits_of, fit_of}
use Rattle.matcher.specs.Select.{PassesName}
use Rattle.matcher.specs.Test.{passes_name}
use Rattle.matcher.specs.Tried.{Counted, none, this, other, Placing, placings, Tried, NameTests}
use Rattle.matcher.specs.Picked.{odd}
use Rattle.matcher.specs.Fit.{fit_for}
use Rattle.matcher.specs.State.{tried_of, tests_at, summed, tests_by, state_of}
use Rattle.matcher.proofs.Digits.{low, tried_below}
use Rattle.matcher.proofs.Places.{passes_decides}
use Rattle.matcher.proofs.Telling.{Tells, TriesAt, stay_bits, go_bits, fit_bits, down_path, path_tried, tried_told}
use Rattle.matcher.proofs.AllPaths.{steps_at, path_tried_lem}

-- ---- numbers of things

module _ {A : Type 0} {P : A → Type 0} where
  pub counted_one : {xs : List A} {n m : ℕ} → Counted P xs n → Counted P xs m → n ≡ m
  counted_one none none = refl
  counted_one (this h c) (this k d) = ap (λ (u : ℕ). 1 + u) (counted_one c d)
  counted_one (this h c) (other k d) = absurd (k h)
  counted_one (other h c) (this k d) = absurd (h k)
  counted_one (other h c) (other k d) = counted_one c d

  pub counted_most : {xs : List A} {n : ℕ} → Counted P xs n → n ≤ length xs
  counted_most none = omega arith
  counted_most (this h c) = let z = counted_most c in omega arith
  counted_most (other h c) = let z = counted_most c in omega arith

  pub counted_append : {xs ys : List A} {n m : ℕ} → Counted P xs n → Counted P ys m → Counted P (xs ++ ys) (n + m)
  counted_append {ys = ys} {m = m} none d = subst (Counted P ys) (sym (zero-add m)) d
  counted_append {m = m} (this {n = n} h c) d = rw (add_assoc 1 n m) (this h (counted_append c d))
  counted_append (other h c) d = other h (counted_append c d)

-- ---- one path

ones_zero : (x : ℕ) → x < 2 ^ 0 → ◌≡◌ {A = ℕ} 0 (ones x)
unfolding ones
ones_zero zero l = refl
ones_zero (suc x) l = absurd (let z = pow-zero 2 in omega arith)

-- where the bits of a number tell of which steps P holds, it holds of as many as are set
tells_counted : (P : List Step → Step → Type 0) (ss done : List Step) (x : ℕ) → x < 2 ^ length ss → Tells P done ss x
    → Counted (λ (y : Placing). P y.0 y.1) (placings done ss) (ones x)
tells_counted P [] done x l told = subst (Counted (λ (y : Placing). P y.0 y.1) []) (ones_zero x l) none
tells_counted P (s ∷ ss) done x l told =
    let half : x / 2 < 2 ^ length ss = let z = two-pow-succ (length ss) in omega arith in
    go (odd x) (low x) told.0 (tells_counted P ss (done ++ s ∷ []) (x / 2) half told.1)
  where
    Q : Placing → Type 0
    Q y = P y.0 y.1

    go : (b : Bool) → x % 2 ≡ bit b → ((b ≡ true) ↔ P done s) → Counted Q (placings (done ++ s ∷ []) ss) (ones (x / 2))
        → Counted Q (placings done (s ∷ ss)) (ones x)
    go true e h r =
        subst (Counted Q (placings done (s ∷ ss))) (sym (ones_step x ∙ ap (λ (u : ℕ). u + ones (x / 2)) e)) (this (h.0 refl) r)
    go false e h r =
        subst (Counted Q (placings done (s ∷ ss))) (let z = ones_step x in let y : ones (x / 2) ≡ ones x = omega arith in y)
        (other (λ p. false≢true (h.1 p)) r)

bit_small : (b : Bool) → bit b ≤ 1
bit_small true = omega arith
bit_small false = omega arith

bits_below : (f : Step → Bool) (ss : List Step) → bits_of (map f ss) < 2 ^ length ss
bits_below f [] = omega (arith, pow-zero 2)
bits_below f (s ∷ ss) = let z = bits_below f ss in let y = two-pow-succ (length ss) in let x = bit_small (f s) in omega arith

module _ (names : List (List ℕ)) (n : List ℕ) where
  path_tests : (ss : List Step) → length ss ≤ 16
      → Counted (Tried (names ++ n ∷ [])) (placings [] ss) (ones (path_tried passes_name ss names n))
  path_tests ss short =
      tells_counted (TriesAt PassesName (names ++ n ∷ []) (length (names ++ n ∷ []))) ss [] (path_tried passes_name ss names n)
      (tried_below (length ss) (down_path passes_name ss 1 names) (fit_bits passes_name ss n) (stay_bits ss) (go_bits ss)
      (bits_below (λ s. stays s.kind) ss) (bits_below (λ s. goes s.kind) ss))
      (subst (λ (k : ℕ). Tells (TriesAt PassesName (names ++ n ∷ []) k) [] ss (path_tried passes_name ss names n))
      (sym (length-append names (n ∷ [])))
      (tried_told PassesName passes_name passes_decides ss short names n))

  -- ---- all paths

  abbrev total : List Path → ℕ
  total [] = 0
  total (p ∷ ps) = ones (path_tried passes_name p.steps names n) + total ps

  all_tests : {ps : List Path} → All (λ p. length p.steps ≤ 16) ps → NameTests ps (names ++ n ∷ []) (total ps)
  all_tests none_left = none
  all_tests (more {x = p} l a) = counted_append (path_tests p.steps l) (all_tests a)

  -- a path of no steps has none
  none_tried : ones (path_tried passes_name [] names n) ≡ 0
  unfolding ones tried_of
  none_tried =
      let x = down_path passes_name [] 1 names in
      rw (and_zero_r x, and_zero_r)

  summed_same : (f g : ℕ → ℕ) (k : ℕ) → ((i : ℕ) → i < k → f i ≡ g i) → summed f k ≡ summed g k
  summed_same f g zero e = refl
  summed_same f g (suc k) e = ap₂ (λ (a b : ℕ). a + b) (summed_same f g k (λ i l. e i (omega arith))) (e k (omega arith))

  summed_first : (g : ℕ → ℕ) (k : ℕ) → summed g (suc k) ≡ g 0 + summed (λ i. g (suc i)) k
  summed_first g zero = omega arith
  summed_first g (suc k) = let z = summed_first g k in omega arith

  summed_none : (k : ℕ) → ◌≡◌ {A = ℕ} (summed (λ i. 0) k) 0
  summed_none zero = refl
  summed_none (suc k) = rw (summed_none k)

  summed_total : (ps : List Path) (k : ℕ) → length ps ≤ k
      → summed (λ i. ones (path_tried passes_name (steps_at ps i) names n)) k ≡ total ps
  summed_total [] k l = rw none_tried (summed_none k)
  summed_total (p ∷ ps) zero l = absurd (omega arith)
  summed_total (p ∷ ps) (suc k) l =
      summed_first (λ i. ones (path_tried passes_name (steps_at (p ∷ ps) i) names n)) k
      ∙ ap (λ (b : ℕ). ones (path_tried passes_name p.steps names n) + b) (summed_total ps k (omega arith))

  tests_carried : (ps : List Path) → length ps ≤ 32 → tests_by (state_of ps names) (fit_for ps n) ≡ total ps
  unfolding tests_by tests_at state_of fit_for fit_of
  tests_carried ps few =
      summed_same _ (λ i. ones (path_tried passes_name (steps_at ps i) names n)) 32
      (λ i l. ap ones (path_tried_lem passes_name ps names n i l))
      ∙ summed_total ps 32 few

  -- the element of name n below those of `names`
  pub tests_told : (ps : List Path) → length ps ≤ 32 → All (λ p. length p.steps ≤ 16) ps
      → NameTests ps (names ++ n ∷ []) (tests_by (state_of ps names) (fit_for ps n))
  tests_told ps few short = rw (tests_carried ps few) (all_tests short)
