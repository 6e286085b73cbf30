-- Laws of tests: both parts of a conjunction, the parts of a disjunction, and that no test is both true and false. Then ranges: a number
-- inside a range lies between its ends.
use mathlib.Core.Path.{◌≡◌, refl, sym, ◌∙◌}
use mathlib.Core.Bool.{Bool, true, false, ◌&&◌, ◌||◌, and-eq-true_iff, true≢false}
use mathlib.Core.Logic.{◌⊎◌, inl, inr}
use Prim.Native.Nat.{ℕ, ◌≤◌}
use native.Mathlib.Omega.{arith}
use lib.Dec.{eqb, leb}
use borrow.Author.Tests.{leb-true, leb-false, le-leb, eq-eqb, ne_eqb}
use Rattle.xml.specs.Range.{Range, only, inside}

pub and_left : (a b : Bool) → a && b ≡ true → a ≡ true
and_left a b e = ((and-eq-true_iff a b).0 e).0

pub and_right : (a b : Bool) → a && b ≡ true → b ≡ true
and_right a b e = ((and-eq-true_iff a b).0 e).1

pub and_both : (a b : Bool) → a ≡ true → b ≡ true → a && b ≡ true
and_both a b p q = (and-eq-true_iff a b).1 (p, q)

pub or_either : (a b : Bool) → a || b ≡ true → (a ≡ true) ⊎ (b ≡ true)
or_either true b e = inl refl
or_either false b e = inr e

pub or_left : (a b : Bool) → a ≡ true → a || b ≡ true
or_left a b p = rw p

pub or_right : (a b : Bool) → b ≡ true → a || b ≡ true
or_right true b q = refl
or_right false b q = q

pub true-false : {a : Bool} → a ≡ true → a ≡ false → ⊥
true-false p q = true≢false (sym p ∙ q)

pub inside_bounds : (r : Range) (c : ℕ) → inside r c ≡ true → (r.low ≤ c) × (c ≤ r.high)
inside_bounds r c e =
    (leb-true r.low c (and_left (leb r.low c) _ e), leb-true c r.high (and_right (leb r.low c) _ e))

pub bounds_inside : (r : Range) (c : ℕ) → r.low ≤ c → c ≤ r.high → inside r c ≡ true
bounds_inside r c l h = and_both (leb r.low c) _ (le-leb r.low c l) (le-leb c r.high h)

-- the range of one number has that number alone
pub only_equal : (c a : ℕ) → eqb c a ≡ inside (only a) c
only_equal c a = go (leb a c) (leb c a) refl refl
  where
    go : (x y : Bool) → leb a c ≡ x → leb c a ≡ y → eqb c a ≡ (x && y)
    go true true p q = eq-eqb c a (let l = leb-true a c p in let m = leb-true c a q in omega arith)
    go true false p q = ne_eqb c a (λ e. let m = leb-false c a q in omega arith)
    go false y p q = ne_eqb c a (λ e. let m = leb-false a c p in omega arith)
