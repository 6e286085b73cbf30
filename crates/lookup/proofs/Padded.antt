-- Laws of a list that is filled up with zeros to some length:
-- its length, its entries, one more entry.
use mathlib.Core.Path.{◌≡◌, refl, ap, ◌∙◌}
use mathlib.Core.List.{List, [], ◌∷◌, ◌++◌}
use Prim.Native.Nat.{ℕ, zero, suc, ◌-◌, ◌≤◌, ◌<◌}
use native.Mathlib.Omega.{arith}
use lib.ListN.{length, get_or, set, replicate, length-append, length-replicate}
use lib.Seq.{set-append_seam}
use Rattle.lookup.specs.Index.{padded}

pub padded_long : (n : ℕ) (xs : List ℕ) → length xs ≤ n → length (padded n xs) ≡ n
unfolding padded
padded_long n xs l =
    length-append xs (replicate (n - length xs) 0) ∙ rw (length-replicate {A = ℕ} (n - length xs) 0) (omega arith)

pub zeros : (n i : ℕ) → ◌≡◌ {A = ℕ} (get_or (replicate n 0) i 0) 0
zeros zero i = refl
zeros (suc n) zero = refl
zeros (suc n) (suc i) = zeros n i

pub padded_get : (n : ℕ) (xs : List ℕ) (i : ℕ) → get_or (padded n xs) i 0 ≡ get_or xs i 0
unfolding padded
padded_get n xs i = go xs (n - length xs) i
  where
    go : (xs : List ℕ) (m i : ℕ) → get_or (xs ++ replicate m 0) i 0 ≡ get_or xs i 0
    go [] m i = zeros m i
    go (x ∷ xs) m zero = refl
    go (x ∷ xs) m (suc i) = go xs m i

pub padded_snoc : (n : ℕ) (xs : List ℕ) (v : ℕ) → length xs < n → set (padded n xs) (length xs) v ≡ padded n (xs ++ v ∷ [])
unfolding padded
padded_snoc n xs v l =
    let e : n - length xs ≡ suc (n - length (xs ++ v ∷ [])) = let z = length-append xs (v ∷ []) in omega arith in
    rw e (set-append_seam xs 0 (replicate (n - length (xs ++ v ∷ [])) 0) v ∙ go xs (replicate (n - length (xs ++ v ∷ [])) 0))
  where
    go : (xs ys : List ℕ) → xs ++ v ∷ ys ≡ (xs ++ v ∷ []) ++ ys
    go [] ys = refl
    go (x ∷ xs) ys = ap (λ (l : List ℕ). x ∷ l) (go xs ys)
