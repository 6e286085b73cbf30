-- The first byte of a class, sought from a place on. In order: what is left, one byte on or a block on; whether one of n places has the
-- class; the loops, by bytes and by blocks.
use mathlib.Core.Path.{◌≡◌, refl, sym, ap, ◌∙◌}
use mathlib.Core.Bool.{Bool, true, false, ◌||◌}
use mathlib.Core.List.{List}
use Prim.Native.Nat.{ℕ, zero, suc, ◌+◌, ◌≤◌, ◌<◌}
use native.Mathlib.Nat.{add-zero, not-suc-le-zero}
use native.Mathlib.Numerals.{add-one}
use native.Mathlib.Omega.{arith}
use borrow.Author.Tests.{eqb-true, eqb-false}
use lib.Dec.{eqb}
use lib.ListN.{length, get_or, drop}
use Rattle.xml.proofs.Bools.{true-false}
use Rattle.blocks.specs.Block.{until, Skips, some_of, First}
use Rattle.utf8.specs.Place.{Stands}
use Rattle.utf8.proofs.Place.{drop_step, drop_end}

until_here : (p : ℕ → Bool) (d : List ℕ) (i : ℕ) → i < length d → p (get_or d i 0) ≡ true → until p (drop i d) ≡ drop i d
unfolding until
until_here p d i h e = rw (drop_step d i h, e)

until_next : (p : ℕ → Bool) (d : List ℕ) (i : ℕ) → i < length d → p (get_or d i 0) ≡ false → until p (drop i d) ≡ until p (drop (i + 1) d)
unfolding until
until_next p d i h e = rw (drop_step d i h, e)

until_end : (p : ℕ → Bool) (d : List ℕ) (i : ℕ) → length d ≤ i → until p (drop i d) ≡ drop i d
unfolding until
until_end p d i h = rw (drop_end d i h)

-- where the test holds at no place, it holds at none of them
pub some_none : (p : ℕ → Bool) (n : ℕ) → some_of p n ≡ false → (k : ℕ) → k < n → p k ≡ false
unfolding some_of
some_none p zero e k h = absurd (not-suc-le-zero h)
some_none p (suc n) e k h = go (some_of p n) (p n) refl e (eqb k n) refl (some_none p n)
  where
    go : (x y : Bool) → p n ≡ y → x || y ≡ false → (b : Bool) → eqb k n ≡ b → (x ≡ false → (k : ℕ) → k < n → p k ≡ false) → p k ≡ false
    go true y r e b t rec = absurd (true-false refl e)
    go false true r e b t rec = absurd (true-false refl e)
    go false false r e true t rec = rw (eqb-true k n t) r
    go false false r e false t rec = let z = eqb-false k n t in rec refl k (omega (arith, z))

pub some_turn : (p : ℕ → Bool) (j : ℕ) → some_of p j || p j ≡ some_of p (j + 1)
unfolding some_of
some_turn p j = rw (add-one j)

-- n bytes on, none of the class
until_past : (p : ℕ → Bool) (d : List ℕ) (i n : ℕ) → i + n ≤ length d → ((k : ℕ) → k < n → p (get_or d (i + k) 0) ≡ false)
    → until p (drop i d) ≡ until p (drop (i + n) d)
until_past p d i zero h f = rw (add-zero i)
until_past p d i (suc n) h f =
    let e : i + n + 1 ≡ i + suc n = omega arith in
    until_past p d i n (omega arith) (λ k l. f k (omega arith))
    ∙ until_next p d (i + n) (omega arith) (f n (omega arith))
    ∙ ap (λ (k : ℕ). until p (drop k d)) e

-- ---- the loops: what is left from i on is sought

pub seek_start : {p : ℕ → Bool} {d : List ℕ} {from : ℕ} → from ≤ length d → Skips p d from from
seek_start h = record { ahead = omega arith; inside = h; same = refl }

module _ {p : ℕ → Bool} {d : List ℕ} {from i : ℕ} (v : Skips p d from i) where
  skips : (n : ℕ) → i + n ≤ length d → ((k : ℕ) → k < n → p (get_or d (i + k) 0) ≡ false) → Skips p d from (i + n)
  skips n l f =
      let a : from ≤ i = v.ahead in
      record { ahead = omega arith; inside = l; same = sym (until_past p d i n l f) ∙ v.same }

  stands : {j : ℕ} → Skips p d from j → until p (drop j d) ≡ drop j d → Stands d j (until p (drop from d))
  stands w e = record { rest = sym e ∙ w.same; inside = w.inside }

  pub seek_end : length d ≤ i → Stands d i (until p (drop from d))
  seek_end h = stands v (until_end p d i h)

  pub seek_last : {r : ℕ} → Stands d r (until p (drop i d)) → Stands d r (until p (drop from d))
  seek_last s = record { rest = s.rest ∙ v.same; inside = s.inside }

  pub seek_on : {r : ℕ} → Skips p d i r → Skips p d from r
  seek_on {r} w =
      let a : from ≤ i = v.ahead in
      let b : i ≤ r = w.ahead in
      record { ahead = omega arith; inside = w.inside; same = w.same ∙ v.same }

  -- by a byte
  module _ (h : i < length d) {x : Bool} (q : x ≡ p (get_or d i 0)) where
    pub seek_here : x ≡ true → Stands d i (until p (drop from d))
    seek_here y = stands v (until_here p d i h (sym q ∙ y))

    pub seek_next : x ≡ false → Skips p d from (i + 1)
    seek_next n = skips 1 (omega arith) (λ k l. let z : i + k ≡ i = omega arith in rw z (sym q ∙ n))

  -- by a block: whether the class has one of its places
  pub seek_past : (n : ℕ) → i + n ≤ length d → {x : Bool} → x ≡ some_of (λ k. p (get_or d (i + k) 0)) n → x ≡ false → Skips p d from (i + n)
  seek_past n l q e = skips n l (some_none (λ k. p (get_or d (i + k) 0)) n (sym q ∙ e))

  -- by a block: the first of its places
  module _ {n r : ℕ} (l : i + n ≤ length d) (f : First (λ k. p (get_or d (i + k) 0)) n r) where
    pub seek_block : n ≤ r → Skips p d from (i + n)
    seek_block h = skips n l (λ k z. f.passed k (omega arith))

    pub seek_found : r < n → Stands d (i + r) (until p (drop from d))
    seek_found h = stands (skips r (omega arith) f.passed) (until_here p d (i + r) (omega arith) (f.found h))

pub ruleset seeking = (seek_start, seek_here, seek_next, seek_end, seek_last, seek_on, seek_past, seek_block, seek_found)
