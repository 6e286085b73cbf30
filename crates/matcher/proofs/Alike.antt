-- `same`: the bits in which the first numbers of two states differ. Where there are none, the states are the same, and else they are not.
use mathlib.Core.Path.{◌≡◌, refl, sym, ap, ap₂, ◌∙◌}
use mathlib.Core.Bool.{Bool, true, false}
use mathlib.Core.List.{List, [], ◌∷◌, ◌++◌}
use Prim.Native.Nat.{ℕ, suc, ◌+◌, ◌≤◌, ◌<◌}
use native.Mathlib.Omega.{arith}
use borrow.Author.Tests.{eqb-true, eqb-false}
use lib.Bits.{bit_or, bit_xor, and_le_l, and_le_r, or_add_and, xor_add_and, xor_self}
use lib.Dec.{eqb}
use lib.ListN.{length, take, get_or}
use lib.Seq.{take-suc, take_all}
use Rattle.xml.specs.Productions.{same}
use Rattle.xml.proofs.Same.{same_refl, same_other}

-- no bit of either; no bit in which they differ
or_none : (x y : ℕ) → bit_or x y ≡ 0 → (x ≡ 0) × (y ≡ 0)
or_none x y e = (omega (arith, e, or_add_and x y, and_le_l x y, and_le_r x y), omega (arith, e, or_add_and x y, and_le_l x y, and_le_r x y))

xor_none : (x y : ℕ) → bit_xor x y ≡ 0 → x ≡ y
xor_none x y e = omega (arith, e, xor_add_and x y, and_le_l x y, and_le_r x y)

pub record Alike (a b : List ℕ) (unlike p : ℕ) : Type 0 where
  pub p_in : p ≤ 32
  pub none : unlike ≡ 0 → take p a ≡ take p b
  pub some : (unlike ≡ 0 → ⊥) → a ≡ b → ⊥

pub alike_start : (a b : List ℕ) → Alike a b 0 0
alike_start a b = record { p_in = omega arith; none = λ e. refl; some = λ h e. h refl }

module _ {a b : List ℕ} {unlike p : ℕ} (v : Alike a b unlike p) (la : length a ≡ 32) (lb : length b ≡ 32) where
  pub alike_more : p < 32 → Alike a b (bit_or unlike (bit_xor (get_or a p 0) (get_or b p 0))) (p + 1)
  alike_more l = record { p_in = omega arith; none = none_more; some = some_more }
    where
      one : suc p ≡ p + 1
      one = omega arith

      none_more : bit_or unlike (bit_xor (get_or a p 0) (get_or b p 0)) ≡ 0 → take (p + 1) a ≡ take (p + 1) b
      none_more h =
          let z = or_none unlike (bit_xor (get_or a p 0) (get_or b p 0)) h in
          rw (← one)
          (take-suc a p 0 (omega (arith, la))
          ∙ ap₂ (λ (s : List ℕ) (x : ℕ). s ++ x ∷ []) (v.none z.0) (xor_none (get_or a p 0) (get_or b p 0) z.1)
          ∙ sym (take-suc b p 0 (omega (arith, lb))))

      some_more : (bit_or unlike (bit_xor (get_or a p 0) (get_or b p 0)) ≡ 0 → ⊥) → a ≡ b → ⊥
      some_more h w =
          v.some
          (λ n. h
          (ap (λ (u : ℕ). bit_or u (bit_xor (get_or a p 0) (get_or b p 0))) n
          ∙ ap (λ (s : List ℕ). bit_xor (get_or a p 0) (get_or s p 0)) (sym w)
          ∙ xor_self (get_or a p 0)))
          w

  pub alike_end : 32 ≤ p → eqb unlike 0 ≡ same a b
  alike_end l = go (eqb unlike 0) refl
    where
      all : unlike ≡ 0 → a ≡ b
      all h = sym (take_all p a (omega (arith, la))) ∙ v.none h ∙ take_all p b (omega (arith, lb))

      go : (t : Bool) → eqb unlike 0 ≡ t → t ≡ same a b
      go true q = sym (ap (same a) (sym (all (eqb-true unlike 0 q))) ∙ same_refl a)
      go false q = sym (same_other a b (v.some (eqb-false unlike 0 q)))

pub ruleset liking = (alike_start, alike_more, alike_end)
