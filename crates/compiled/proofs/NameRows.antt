-- The row of a name: the row at its place is its fit, and for a name that no step has the place is 0. First lists of rows of 32 joined to
-- one list, and the rows taken out again.
use mathlib.Core.Path.{◌≡◌, refl, sym, ap, ◌∙◌}
use mathlib.Core.List.{List, [], ◌∷◌, ◌++◌, map}
use Prim.Native.Nat.{ℕ, zero, suc, ◌+◌, ◌-◌, ◌*◌, ◌≤◌, ◌<◌}
use native.Mathlib.Omega.{arith}
use lib.ListN.{length, get_or, take, drop, replicate, length-append}
use lib.ListN.{length-map, length-replicate, get_or-replicate, replicate-append-replicate, get_or-append}
use lib.Seq.{take_at, drop-append-add, get_or-append-add}
use Rattle.paths.specs.Path.{Test, any, named, Path, All, none, more}
use Rattle.compiled.specs.Bits.{passes, passes_any, fit_of, other_fit}
use Rattle.lookup.specs.Names.{Named, place_of, names_of}
use Rattle.compiled.specs.Compiled.{joined, rows_of}
use Rattle.compiled.specs.Sizes.{Sized}
use Rattle.xml.proofs.Same.{same_other}
use Rattle.compiled.proofs.Alls.{all_map, all_append}
use Rattle.lookup.proofs.Places.{name_at, place_says}
use Rattle.compiled.proofs.Firsts.{HasTest, names_have, names_few}
use Rattle.compiled.proofs.Bits.{column_long, column_alike}

-- ---- rows joined

abbrev pub Rows : List (List ℕ) → Type 0
Rows = All (λ r. length r ≡ 32)

pub joined_long : (rs : List (List ℕ)) → Rows rs → length (joined rs) ≡ 32 * length rs
joined_long [] none = refl
joined_long (r ∷ rs) (more e a) = let z = joined_long rs a in length-append r (joined rs) ∙ (omega arith)

pub joined_row : (rs : List (List ℕ)) → Rows rs → (k : ℕ) → k < length rs → take 32 (drop (32 * k) (joined rs)) ≡ get_or rs k []
joined_row [] none k l = absurd (omega arith)
joined_row (r ∷ rs) (more e a) zero l = take_at r (joined rs) 32 e
joined_row (r ∷ rs) (more e a) (suc k) l =
    let z : 32 * suc k ≡ length r + 32 * k = omega arith in
    rw (z, drop-append-add r (joined rs) (32 * k)) (joined_row rs a k (omega arith))

pub joined_zeros : (n : ℕ) → joined (replicate n (replicate 32 0)) ≡ replicate (32 * n) 0
joined_zeros zero = refl
joined_zeros (suc n) =
    let z : 32 + 32 * n ≡ 32 * suc n = omega arith in
    rw (joined_zeros n) (replicate-append-replicate 32 (32 * n) 0 ∙ ap (λ (m : ℕ). replicate m 0) z)

-- ---- the rows of a list

abbrev pub row_list : List Path → List (List ℕ)
row_list ps = other_fit ps ∷ map (λ x. fit_of ps x.name) (names_of ps) ++ replicate (512 - length (names_of ps)) (other_fit ps)

module _ (ps : List Path) (s : Sized ps) where
  other_long : length (other_fit ps) ≡ 32
  unfolding other_fit
  other_long = column_long _ ps s.few

  fit_long : (n : List ℕ) → length (fit_of ps n) ≡ 32
  unfolding fit_of
  fit_long n = column_long _ ps s.few

  rows_row : Rows (row_list ps)
  rows_row = more other_long (all_append (fits (names_of ps)) (others (512 - length (names_of ps))))
    where
      fits : (ns : List Named) → Rows (map (λ x. fit_of ps x.name) ns)
      fits [] = none
      fits (x ∷ ns) = more (fit_long x.name) (fits ns)

      others : (n : ℕ) → Rows (replicate n (other_fit ps))
      others zero = none
      others (suc n) = more other_long (others n)

  rows_many : length (row_list ps) ≡ 513
  rows_many =
      let f = names_few ps s.few s.short in
      let ns = names_of ps in
      let a = length-append (map (λ x. fit_of ps x.name) ns) (replicate (512 - length ns) (other_fit ps)) in
      let b = length-map ns (λ x. fit_of ps x.name) in
      let c = length-replicate (512 - length ns) (other_fit ps) in
      omega arith

  pub rows_long : length (rows_of ps) ≡ 16416
  unfolding rows_of
  rows_long = let z = rows_many in joined_long (row_list ps) rows_row ∙ omega arith

  pub rows_get : (k : ℕ) → k < 513 → take 32 (drop (32 * k) (rows_of ps)) ≡ get_or (row_list ps) k []
  unfolding rows_of
  rows_get k l = joined_row (row_list ps) rows_row k (rw rows_many l)

  -- ---- the row of a name

  -- no step has the name n: it passes where any name does
  other_fits : (n : List ℕ) → place_of (names_of ps) n ≡ 0 → other_fit ps ≡ fit_of ps n
  unfolding other_fit fit_of
  other_fits n z =
      column_alike (λ s. passes_any s.test) (λ s. passes n s.test) ps
      (all_map (λ p a. all_map (λ s h. test s.test h) a) (names_have ps))
    where
      test : (t : Test) → HasTest (names_of ps) t → passes_any t ≡ passes n t
      test any h = refl
      test (named m) h = sym (same_other m n (λ e. h (ap (place_of (names_of ps)) e ∙ z)))

  pub name_row : (k : ℕ) → k < length (names_of ps) → get_or (row_list ps) (suc k) [] ≡ fit_of ps (name_at (names_of ps) k)
  name_row k l =
      get_or-append (map (λ x. fit_of ps x.name) (names_of ps)) (replicate (512 - length (names_of ps)) (other_fit ps)) [] k
      (rw (length-map (names_of ps) (λ x. fit_of ps x.name)) l)
      ∙ go (names_of ps) k l
    where
      go : (ns : List Named) (k : ℕ) → k < length ns → get_or (map (λ x. fit_of ps x.name) ns) k [] ≡ fit_of ps (name_at ns k)
      go [] k l = absurd (omega arith)
      go (x ∷ ns) zero l = refl
      go (x ∷ ns) (suc k) l = go ns k (omega arith)

  pub past_row : (k : ℕ) → length (names_of ps) ≤ k → k < 512 → get_or (row_list ps) (suc k) [] ≡ other_fit ps
  past_row k l h =
      let xs = map (λ x. fit_of ps x.name) (names_of ps) in
      let ys = replicate (512 - length (names_of ps)) (other_fit ps) in
      let e = length-map (names_of ps) (λ x. fit_of ps x.name) in
      let z : k ≡ length xs + (k - length xs) = omega arith in
      ap (λ (i : ℕ). get_or (xs ++ ys) i []) z
      ∙ get_or-append-add xs ys (k - length xs) []
      ∙ get_or-replicate (512 - length (names_of ps)) (k - length xs) (other_fit ps) [] (omega arith)

  pub rows_fit : (n : List ℕ) → take 32 (drop (32 * place_of (names_of ps) n) (rows_of ps)) ≡ fit_of ps n
  rows_fit n = go (place_of (names_of ps) n) refl
    where
      go : (k : ℕ) → place_of (names_of ps) n ≡ k → take 32 (drop (32 * k) (rows_of ps)) ≡ fit_of ps n
      go zero e = rows_get 0 (omega arith) ∙ other_fits n e
      go (suc k) e =
          let (l, q) = place_says (names_of ps) n k e in
          rows_get (suc k) (let f = names_few ps s.few s.short in omega arith) ∙ name_row k l ∙ ap (fit_of ps) q
