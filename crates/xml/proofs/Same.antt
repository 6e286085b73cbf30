-- Equal names: `same` is equality. It holds of a name and itself, and of no other.
-- And a text at the front is the same as so many bytes there.
use mathlib.Core.Path.{◌≡◌, refl, ap}
use mathlib.Core.Bool.{Bool, true, false, ◌&&◌, false≢true}
use mathlib.Core.List.{List, [], ◌∷◌}
use Prim.Native.Nat.{ℕ}
use borrow.Author.Tests.{eqb-true, eq-eqb}
use lib.Dec.{eqb}
use lib.ListN.{length, take}
use Rattle.xml.specs.Character.{begins}
use Rattle.xml.specs.Productions.{same}
use Rattle.xml.proofs.Bools.{and_left, and_right}

pub same_equal : (w m : List ℕ) → same w m ≡ true → w ≡ m
same_equal [] [] e = refl
same_equal [] (y ∷ m) e = absurd (false≢true e)
same_equal (x ∷ w) [] e = absurd (false≢true e)
same_equal (x ∷ w) (y ∷ m) e =
    cc (eqb-true x y (and_left (eqb x y) _ e), same_equal w m (and_right (eqb x y) _ e))

pub same_refl : (w : List ℕ) → same w w ≡ true
same_refl [] = refl
same_refl (x ∷ w) = rw (eq-eqb x x refl) (same_refl w)

pub same_other : (w m : List ℕ) → (w ≡ m → ⊥) → same w m ≡ false
same_other w m n = go (same w m) refl
  where
    go : (b : Bool) → same w m ≡ b → b ≡ false
    go true e = absurd (n (same_equal w m e))
    go false e = refl

pub begins-same : (w s : List ℕ) → begins w s ≡ same (take (length w) s) w
begins-same [] s = refl
begins-same (x ∷ w) [] = refl
begins-same (x ∷ w) (y ∷ s) = ap (λ (b : Bool). eqb y x && b) (begins-same w s)
