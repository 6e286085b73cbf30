-- Rows listed by a function and joined to one list:
-- an entry, and what a store at an entry makes of the function.
use mathlib.Core.Path.{◌≡◌, refl, sym, ap, ◌∙◌}
use mathlib.Core.Bool.{Bool, true, false}
use mathlib.Core.List.{List, [], ◌∷◌, ◌++◌}
use Prim.Native.Nat.{ℕ, zero, suc, ◌+◌, ◌-◌, ◌*◌, ◌≤◌, ◌<◌}
use native.Mathlib.Nat.{add-zero, zero-add, add-suc, suc-add}
use native.Mathlib.Omega.{arith}
use borrow.Author.Tests.{eqb-true, eqb-false}
use lib.ListN.{length, get_or, drop, set, replicate}
use lib.Seq.{get_or-take, get_or-drop, set-append_left}
use lib.Dec.{eqb}
use Rattle.paths.specs.Path.{none, more}
use Rattle.compiled.specs.Compiled.{joined}
use Rattle.compiled.specs.Built.{listed}
use Rattle.compiled.proofs.NameRows.{Rows, joined_long, joined_row}

module _ {A : Type 0} (f : ℕ → A) where
  pub listed_many : (i n : ℕ) → length (listed f i n) ≡ n
  listed_many i zero = refl
  listed_many i (suc n) = ap suc (listed_many (suc i) n)

  pub listed_get : (x : A) (i n k : ℕ) → k < n → get_or (listed f i n) k x ≡ f (i + k)
  listed_get x i zero k l = absurd (omega arith)
  listed_get x i (suc n) zero l = ap f (sym (add-zero i))
  listed_get x i (suc n) (suc k) l = listed_get x (suc i) n k (omega arith) ∙ ap f (suc-add i k ∙ sym (add-suc i k))

module _ (f : ℕ → List ℕ) where
  module _ (each : (k : ℕ) → length (f k) ≡ 32) where
    listed_rows : (i n : ℕ) → Rows (listed f i n)
    listed_rows i zero = none
    listed_rows i (suc n) = more (each i) (listed_rows (suc i) n)

    pub listed_long : (n : ℕ) → length (joined (listed f 0 n)) ≡ 32 * n
    listed_long n = joined_long (listed f 0 n) (listed_rows 0 n) ∙ ap (λ (m : ℕ). 32 * m) (listed_many f 0 n)

    pub listed_entry : (n k p : ℕ) → k < n → p < 32 → get_or (joined (listed f 0 n)) (32 * k + p) 0 ≡ get_or (f k) p 0
    listed_entry n k p l h =
        sym (get_or-drop (32 * k) (joined (listed f 0 n)) p 0)
        ∙ sym (get_or-take 32 (drop (32 * k) (joined (listed f 0 n))) p 0 h)
        ∙ ap (λ (r : List ℕ). get_or r p 0)
        (joined_row (listed f 0 n) (listed_rows 0 n) k (rw (listed_many f 0 n) l) ∙ listed_get f [] 0 n k l ∙ ap f (zero-add k))

pub listed_constant : (f : ℕ → List ℕ) (r : List ℕ) → ((k : ℕ) → f k ≡ r) → (i n : ℕ) → listed f i n ≡ replicate n r
listed_constant f r h i zero = refl
listed_constant f r h i (suc n) = cc (h i, listed_constant f r h (suc i) n)

-- ---- a store

set_append_right : (xs ys : List ℕ) (i v : ℕ) → set (xs ++ ys) (length xs + i) v ≡ xs ++ set ys i v
set_append_right [] ys i v = rw (zero-add i)
set_append_right (x ∷ xs) ys i v =
    let z : suc (length xs) + i ≡ suc (length xs + i) = omega arith in
    rw z (ap (λ (l : List ℕ). x ∷ l) (set_append_right xs ys i v))

pub listed_same : (f g : ℕ → List ℕ) (i n : ℕ) → ((k : ℕ) → i ≤ k → g k ≡ f k) → listed g i n ≡ listed f i n
listed_same f g i zero h = refl
listed_same f g i (suc n) h = cc (h i (omega arith), listed_same f g (suc i) n (λ k l. h k (omega arith)))

module _ (f g : ℕ → List ℕ) (each : (k : ℕ) → length (f k) ≡ 32) (k p v : ℕ) (in_row : p < 32)
    (others : (j : ℕ) → (j ≡ k → ⊥) → g j ≡ f j) (this : g k ≡ set (f k) p v) where
  set_from : (i n : ℕ) → i ≤ k → k < i + n → joined (listed g i n) ≡ set (joined (listed f i n)) (32 * (k - i) + p) v
  set_from i zero l h = absurd (omega arith)
  set_from i (suc n) l h = go (eqb i k) refl (λ m. set_from (suc i) n m (omega arith))
    where
      go : (b : Bool) → eqb i k ≡ b
          → (suc i ≤ k → joined (listed g (suc i) n) ≡ set (joined (listed f (suc i) n)) (32 * (k - suc i) + p) v)
          → g i ++ joined (listed g (suc i) n) ≡ set (f i ++ joined (listed f (suc i) n)) (32 * (k - i) + p) v
      go true b later =
          let e = eqb-true i k b in
          let z : 32 * (k - i) + p ≡ p = omega arith in
          let same : listed g (suc i) n ≡ listed f (suc i) n = listed_same f g (suc i) n (λ j m. others j (λ q. omega arith)) in
          let here : g i ≡ set (f i) p v = rw e this in
          rw (z, same, here)
          (sym (set-append_left (f i) (joined (listed f (suc i) n)) p v (let y = each i in omega arith)))
      go false b later =
          let ne = eqb-false i k b in
          let m : suc i ≤ k = above ne in
          let z : 32 * (k - i) + p ≡ length (f i) + (32 * (k - suc i) + p) = let y = each i in omega arith in
          rw (z, others i ne, later m) (sym (set_append_right (f i) (joined (listed f (suc i) n)) (32 * (k - suc i) + p) v))
        where
          above : (i ≡ k → ⊥) → suc i ≤ k
          above ne = omega (arith, ne)

  pub listed_set : (n : ℕ) → k < n → joined (listed g 0 n) ≡ set (joined (listed f 0 n)) (32 * k + p) v
  listed_set n l =
      let z : 32 * (k - 0) + p ≡ 32 * k + p = omega arith in
      rw z at (set_from 0 n (omega arith) (omega arith))
