-- Laws of bits: their sum is below 2 to the number of steps; one more step; two sets of steps with no step in common. Then a column, a
-- number for each of 32 paths: its length, its entries, one more path. Then steps that answer two tests alike.
use mathlib.Core.Path.{◌≡◌, refl, sym, ap, ◌∙◌}
use mathlib.Core.Bool.{Bool, true, false, cond, ◌&&◌, ◌||◌}
use mathlib.Core.List.{List, [], ◌∷◌, ◌++◌, map}
use Prim.Native.Nat.{ℕ, zero, suc, ◌+◌, ◌^◌, ◌≤◌, ◌<◌}
use native.Mathlib.Nat.{pow-zero, two-pow-succ, pow-le-pow_right}
use native.Mathlib.Omega.{arith}
use lib.ListN.{length, get_or, set, length-map}
use Rattle.paths.specs.Path.{Step, Path, All, none, more}
use Rattle.lookup.specs.Index.{padded}
use Rattle.compiled.specs.Bits.{bit, bits_of, step_bits, column}
use Rattle.lookup.proofs.Padded.{padded_long, padded_get, padded_snoc}
use Rattle.compiled.proofs.Firsts.{Steps}

-- ---- bits

bit_small : (b : Bool) → bit b ≤ 1
bit_small true = omega arith
bit_small false = omega arith

pub bits_below : (bs : List Bool) → bits_of bs < 2 ^ length bs
bits_below [] = omega (arith, pow-zero 2)
bits_below (b ∷ bs) = let z = bits_below bs in let y = two-pow-succ (length bs) in let x = bit_small b in omega arith

pub bits_snoc : (bs : List Bool) (b : Bool) → bits_of (bs ++ b ∷ []) ≡ bits_of bs + cond b (2 ^ length bs) 0
bits_snoc [] true = omega (arith, pow-zero 2)
bits_snoc [] false = refl
bits_snoc (c ∷ bs) true = let z = bits_snoc bs true in let y = two-pow-succ (length bs) in omega arith
bits_snoc (c ∷ bs) false = let z = bits_snoc bs false in omega arith

pub power_16 : (n : ℕ) → n ≤ 16 → 2 ^ n ≤ 65536
power_16 n l = let z : 2 ^ n ≤ 2 ^ 16 = pow-le-pow_right {n = 2} (omega arith) l in let y : 2 ^ 16 ≡ 65536 = refl in omega arith

pub step_bits_below : (f : Step → Bool) (p : Path) → length p.steps ≤ 16 → step_bits f p < 65536
step_bits_below f p l =
    let z = bits_below (map f p.steps) in
    let y = power_16 (length (map f p.steps)) (rw (length-map p.steps f) l) in
    omega arith

-- steps of which none passes both tests
pub bits_both : (f g : Step → Bool) (ss : List Step) → All (λ s. f s && g s ≡ false) ss
    → bits_of (map (λ s. f s || g s) ss) ≡ bits_of (map f ss) + bits_of (map g ss)
bits_both f g [] none = refl
bits_both f g (s ∷ ss) (more e a) =
    let z = bits_both f g ss a in
    let y = go (f s) (g s) e in
    omega arith
  where
    go : (x y : Bool) → x && y ≡ false → bit (x || y) ≡ bit x + bit y
    go true true e = absurd (let z : ◌≡◌ {A = ℕ} 1 0 = ap bit e in omega arith)
    go true false e = refl
    go false true e = refl
    go false false e = refl

pub bits_none : (f : Step → Bool) (ss : List Step) → All (λ s. f s ≡ false) ss → bits_of (map f ss) ≡ 0
bits_none f [] none = refl
bits_none f (s ∷ ss) (more e a) = rw (e, bits_none f ss a)

pub map_snoc : {A B : Type 0} (f : A → B) (xs : List A) (x : A) → map f (xs ++ x ∷ []) ≡ map f xs ++ f x ∷ []
map_snoc f [] x = refl
map_snoc f (y ∷ xs) x = ap (λ (l : List _). f y ∷ l) (map_snoc f xs x)

-- ---- entries below a number

-- every entry is below b
abbrev pub Below : ℕ → List ℕ → Type 0
Below b xs = (i : ℕ) → get_or xs i 0 < b

pub below_all : {b : ℕ} {xs : List ℕ} → 0 < b → All (λ x. x < b) xs → Below b xs
below_all l none i = l
below_all l (more h a) zero = h
below_all l (more h a) (suc i) = below_all l a i

pub below_padded : (b n : ℕ) (xs : List ℕ) → Below b xs → Below b (padded n xs)
below_padded b n xs h i = rw (padded_get n xs i) (h i)

pub all_mapped : {A : Type 0} {P : ℕ → Type 0} (f : A → ℕ) {xs : List A} → All (λ x. P (f x)) xs → All P (map f xs)
all_mapped f none = none
all_mapped f (more h a) = more h (all_mapped f a)

-- ---- columns

module _ (f : Path → ℕ) where
  pub column_long : (ps : List Path) → length ps ≤ 32 → length (column f ps) ≡ 32
  unfolding column
  column_long ps l = padded_long 32 (map f ps) (rw (length-map ps f) l)

  pub column_get : (ps : List Path) (i : ℕ) → get_or (column f ps) i 0 ≡ get_or (map f ps) i 0
  unfolding column
  column_get ps i = padded_get 32 (map f ps) i

  pub column_snoc : (ps : List Path) (q : Path) → length ps < 32 → set (column f ps) (length ps) (f q) ≡ column f (ps ++ q ∷ [])
  unfolding column
  column_snoc ps q l =
      ap (λ (k : ℕ). set (padded 32 (map f ps)) k (f q)) (sym (length-map ps f))
      ∙ padded_snoc 32 (map f ps) (f q) (rw (length-map ps f) l)
      ∙ ap (padded 32) (sym (map_snoc f ps q))

-- ---- tests that the steps answer alike

steps_alike : {f g : Step → Bool} (ss : List Step) → All (λ s. f s ≡ g s) ss → map f ss ≡ map g ss
steps_alike [] none = refl
steps_alike (s ∷ ss) (more e a) = cc (e, steps_alike ss a)

pub column_alike : (f g : Step → Bool) (ps : List Path) → Steps (λ s. f s ≡ g s) ps → column (step_bits f) ps ≡ column (step_bits g) ps
unfolding column
column_alike f g ps a = ap (padded 32) (go ps a)
  where
    go : (ps : List Path) → Steps (λ s. f s ≡ g s) ps → map (step_bits f) ps ≡ map (step_bits g) ps
    go [] none = refl
    go (p ∷ ps) (more e a) = cc (ap bits_of (steps_alike p.steps e), go ps a)
