-- That one with a name and a value is among attributes.
-- What is computed is what is meant, both ways.
use mathlib.Core.Path.{◌≡◌}
use mathlib.Core.Bool.{true, ◌&&◌, or-true, false≢true}
use mathlib.Core.List.{List, [], ◌∷◌}
use mathlib.Core.Logic.{◌⊎◌, inl, inr}
use Prim.Native.Nat.{ℕ}
use Rattle.xml.specs.Forest.{Name}
use Rattle.xml.specs.Productions.{same}
use Rattle.xml.proofs.Bools.{and_left, and_right, or_either}
use Rattle.xml.proofs.Same.{same_equal, same_refl}
use Rattle.attributes.specs.Attribute.{Attribute, Has, here, there}
use Rattle.attributes.specs.Held.{has_attribute}

module _ (n : Name) (v : List ℕ) where
  pub has_found : {xs : List Attribute} → Has n v xs → has_attribute xs n v ≡ true
  unfolding has_attribute
  has_found (here) = rw (same_refl n, same_refl v)
  has_found (there {x = x} h) = rw (has_found h) (or-true (same x.name n && same x.value v))

  pub found_has : (xs : List Attribute) → has_attribute xs n v ≡ true → Has n v xs
  unfolding has_attribute
  found_has [] e = absurd (false≢true e)
  found_has (x ∷ xs) e = go (or_either (same x.name n && same x.value v) _ e) (found_has xs)
    where
      go : (same x.name n && same x.value v ≡ true) ⊎ (has_attribute xs n v ≡ true) → (has_attribute xs n v ≡ true → Has n v xs)
          → Has n v (x ∷ xs)
      go (inl q) f =
          let a : x.name ≡ n = same_equal x.name n (and_left (same x.name n) _ q) in
          let b : x.value ≡ v = same_equal x.value v (and_right (same x.name n) _ q) in
          rw (← a, ← b) here
      go (inr q) f = there (f q)
