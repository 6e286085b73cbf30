-- The ways through `verdict_of`: the bits are taken off one by one from the lowest, with the column of the marks.
-- In order: bits of which some are taken off; the marks.
use mathlib.Core.Path.{◌≡◌, refl, sym, ap, ap₂, ◌∙◌}
use mathlib.Core.Bool.{Bool, true, false, ◌&&◌, ◌||◌, and-false}
use mathlib.Core.List.{List, [], ◌∷◌}
use Prim.Native.Nat.{ℕ, zero, suc, ◌+◌, ◌-◌, ◌/◌, ◌%◌, ◌^◌, ◌≤◌, ◌<◌}
use native.Mathlib.Nat.{pos_of_ne-zero, two-pow-succ}
use native.Mathlib.Numerals.{add-one}
use native.Mathlib.Omega.{arith}
use borrow.Author.Tests.{eq-eqb, ne_eqb}
use lib.ListN.{length, drop, get_or}
use lib.Seq.{drop-cons}
use Rattle.matcher.specs.Says.{decided}
use Rattle.matcher.specs.Picked.{odd, some_set, picked_by}
use Rattle.matcher.specs.State.{nonzero}
use Rattle.matcher.specs.declared.Verdict.TheVariants.{Unselected, Selected, Marked}
use Rattle.matcher.specs.declared.fit.Fit.{Fit}
use Rattle.matcher.proofs.Carrying.{nonzero_not, nonzero_zero}

-- ---- p bits of 32 are taken off

module _ (bits p : ℕ) (l : bits < 2 ^ (32 - p)) (h : bits ≡ 0 → ⊥) where
  pub bits_number : p < 32
  bits_number = go (32 - p) refl l
    where
      go : (k : ℕ) → 32 - p ≡ k → bits < 2 ^ k → p < 32
      go zero e l = absurd (h (let z : bits < 1 = l in omega arith))
      go (suc k) e l = omega arith

  pub bits_fewer : bits / 2 < 2 ^ (32 - (p + 1))
  bits_fewer =
      let i = bits_number in
      let k = 32 - (p + 1) in
      let z : 32 - p ≡ suc k = omega arith in
      let y : 2 ^ (32 - p) ≡ 2 ^ k + 2 ^ k = ap (λ (n : ℕ). 2 ^ n) z ∙ two-pow-succ k in
      omega arith

  pub bits_less : bits / 2 < bits
  bits_less = let z = pos_of_ne-zero h in omega arith

-- ---- the marks

some_unset : (xs : List ℕ) → some_set xs 0 ≡ false
some_unset [] = refl
some_unset (x ∷ xs) = ap₂ (λ (a b : Bool). a || b) (and-false (nonzero x)) (some_unset xs)

-- no marked path is met among the first p
pub record Picking (marks : List ℕ) (bits left p : ℕ) : Type 0 where
  pub inside : p ≤ 32
  pub fits : left < 2 ^ (32 - p)
  pub rest : some_set marks bits ≡ some_set (drop p marks) left

pub pick_start : (marks : List ℕ) (bits : ℕ) → bits < 4294967296 → Picking marks bits bits 0
pick_start marks bits l = record { inside = omega arith; fits = l; rest = refl }

pub pick_none : (f : Fit) (bits : ℕ) → bits ≡ 0 → Unselected ≡ picked_by f bits
unfolding picked_by
pick_none f bits e = rw e (sym (ap (λ (b : Bool). decided b false) (some_unset f.marks)))

module _ {marks : List ℕ} {bits left p : ℕ} (v : Picking marks bits left p) where
  pub pick_number : (left ≡ 0 → ⊥) → p < 32
  pick_number h = bits_number left p v.fits h

  module _ (h : left ≡ 0 → ⊥) (long : length marks ≡ 32) where
    here : some_set marks bits ≡ (nonzero (get_or marks p 0) && odd left) || some_set (drop (suc p) marks) (left / 2)
    here =
        let l = pick_number h in
        v.rest ∙ ap (λ (xs : List ℕ). some_set xs left) (drop-cons marks p 0 (omega arith))

    next : (nonzero (get_or marks p 0) && odd left) ≡ false → Picking marks bits (left / 2) (p + 1)
    next e =
        record {
          inside = let l = pick_number h in omega arith;
          fits = bits_fewer left p v.fits h;
          rest = rw (add-one p) (here ∙ ap (λ (b : Bool). b || some_set (drop (suc p) marks) (left / 2)) e);
        }

    pub pick_unset : left % 2 ≡ 0 → Picking marks bits (left / 2) (p + 1)
    pick_unset e = next (rw (ne_eqb (left % 2) 1 (λ z. omega arith)) (and-false (nonzero (get_or marks p 0))))

    pub pick_unmarked : get_or marks p 0 ≡ 0 → Picking marks bits (left / 2) (p + 1)
    pick_unmarked e = next (rw (nonzero_zero (get_or marks p 0) e))

module _ (f : Fit) {bits left p : ℕ} (v : Picking f.marks bits left p) where
  pub pick_marked : (left ≡ 0 → ⊥) → length f.marks ≡ 32 → (left % 2 ≡ 0 → ⊥) → (get_or f.marks p 0 ≡ 0 → ⊥) → Marked ≡ picked_by f bits
  unfolding picked_by
  pick_marked h long e n =
      let set : left % 2 ≡ 1 = let z = pos_of_ne-zero e in omega arith in
      let met : some_set f.marks bits ≡ true = here v h long ∙ rw (nonzero_not (get_or f.marks p 0) n, eq-eqb (left % 2) 1 set) in
      sym (ap (λ (b : Bool). decided b (nonzero bits)) met)

  pub pick_end : left ≡ 0 → (bits ≡ 0 → ⊥) → Selected ≡ picked_by f bits
  unfolding picked_by
  pick_end e n =
      let none : some_set f.marks bits ≡ false = v.rest ∙ ap (some_set (drop p f.marks)) e ∙ some_unset (drop p f.marks) in
      sym (ap₂ decided none (nonzero_not bits n))

pub ruleset picking = (pick_start, pick_none, pick_number, bits_less, pick_unset, pick_unmarked, pick_marked, pick_end)
