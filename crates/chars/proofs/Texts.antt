-- `stands`: the first k bytes of the text stand before the place i.
-- What is left of the text is asked of what is left of the bytes.
use mathlib.Core.Path.{◌≡◌, refl}
use mathlib.Core.Bool.{true, false}
use mathlib.Core.List.{List}
use Prim.Native.Nat.{ℕ, ◌+◌, ◌≤◌, ◌<◌}
use native.Mathlib.Omega.{arith}
use borrow.Author.Tests.{eq-eqb, ne_eqb}
use lib.ListN.{length, get_or, drop}
use Rattle.xml.specs.Character.{begins}
use Rattle.utf8.proofs.Place.{drop_step, drop_end}

-- the first k bytes of w stand at the place at of d, and i is the place after them
pub record Standing (d : List ℕ) (at : ℕ) (w : List ℕ) (i k : ℕ) : Type 0 where
  pub inside : k ≤ length w
  pub same : begins (drop k w) (drop i d) ≡ begins w (drop at d)

pub stand_start : {d : List ℕ} {at : ℕ} {w : List ℕ} → Standing d at w at 0
stand_start = record { inside = omega arith; same = refl }

module _ {d : List ℕ} {at : ℕ} {w : List ℕ} {i k : ℕ} (v : Standing d at w i k) where
  pub stand_whole : length w ≤ k → true ≡ begins w (drop at d)
  stand_whole h = rw (drop_end w k h) at v.same

  module _ (h : k < length w) where
    pub stand_short : length d ≤ i → false ≡ begins w (drop at d)
    stand_short l = rw (drop_step w k h, drop_end d i l) at v.same

    module _ (l : i < length d) where
      pub stand_other : (get_or d i 0 ≡ get_or w k 0 → ⊥) → false ≡ begins w (drop at d)
      stand_other n = rw (drop_step w k h, drop_step d i l, ne_eqb (get_or d i 0) (get_or w k 0) n) at v.same

      pub stand_on : get_or d i 0 ≡ get_or w k 0 → Standing d at w (i + 1) (k + 1)
      stand_on e =
          record {
            inside = omega arith;
            same = rw (drop_step w k h, drop_step d i l, eq-eqb (get_or d i 0) (get_or w k 0) e) at v.same;
          }

pub ruleset standing = (stand_start, stand_whole, stand_short, stand_other, stand_on)
