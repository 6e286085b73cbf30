-- A tag of its name alone has no attributes. Those of a tag that stands at a place of a document, with a name of n bytes and a head that
-- ends at h, are those of the bytes behind its name.
use mathlib.Core.Path.{◌≡◌, ap, ◌∙◌}
use mathlib.Core.List.{List, [], ◌++◌}
use Prim.Native.Nat.{ℕ, suc, ◌+◌, ◌-◌, ◌≤◌}
use native.Mathlib.Omega.{arith}
use lib.ListN.{length, take, drop, length-drop, drop_of_length-le}
use lib.Seq.{take-add, drop_at, drop-drop, length-take-le}
use Rattle.xml.specs.Notation.{bytes}
use Rattle.attributes.specs.Held.{attributes_in, attributes_of}

pub attributes_bare : (n tail : List ℕ) → attributes_of (record { name = n; head = bytes "<" ++ n; tail = tail }) ≡ []
unfolding attributes_of attributes_in
attributes_bare n tail = let l : length n ≤ length n = omega arith in ap (attributes_in 0) (drop_of_length-le n l)

module _ (d : List ℕ) (at n h : ℕ) (l : at + 1 + n ≤ h) (g : h ≤ length d) where
  name_long : length (take n (drop (at + 1) d)) ≡ n
  name_long = length-take-le n (drop (at + 1) d) (omega (arith, length-drop (at + 1) d))

  front_long : length (take (suc n) (drop at d)) ≡ suc n
  front_long = length-take-le (suc n) (drop at d) (omega (arith, length-drop at d))

  behind : drop (suc n) (take (h - at) (drop at d)) ≡ take (h - (at + 1 + n)) (drop (at + 1 + n) d)
  behind =
      let m = h - (at + 1 + n) in
      let e : h - at ≡ suc n + m = omega arith in
      let k : at + suc n ≡ at + 1 + n = omega arith in
      ap (λ (j : ℕ). drop (suc n) (take j (drop at d))) e
      ∙ ap (drop (suc n)) (take-add (suc n) m (drop at d))
      ∙ drop_at (take (suc n) (drop at d)) (take m (drop (suc n) (drop at d))) (suc n) front_long
      ∙ ap (take m) (drop-drop (suc n) at d ∙ ap (λ (j : ℕ). drop j d) k)

  pub attributes_behind : (tail : List ℕ)
      → attributes_of (record { name = take n (drop (at + 1) d); head = take (h - at) (drop at d); tail = tail })
      ≡ attributes_in 0 (take (h - (at + 1 + n)) (drop (at + 1 + n) d))
  unfolding attributes_of
  attributes_behind tail =
      ap (λ (j : ℕ). attributes_in 0 (drop (suc j) (take (h - at) (drop at d)))) name_long ∙ ap (attributes_in 0) behind
