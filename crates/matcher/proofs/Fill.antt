-- An array of 32 numbers that is filled from the front: the first p are those of a function.
-- `deeper` fills its one so, and `far_only` of the crate covers.
use mathlib.Core.Path.{◌≡◌, refl, sym, ap, ◌∙◌}
use mathlib.Core.List.{List, [], ◌∷◌, ◌++◌}
use Prim.Native.Nat.{ℕ, zero, suc, ◌+◌, ◌≤◌, ◌<◌}
use native.Mathlib.Nat.{add-zero, zero-add, add-suc, suc-add}
use native.Mathlib.Numerals.{add-one}
use native.Mathlib.Omega.{arith}
use lib.ListN.{length, take, set, replicate, length-set, length-replicate}
use lib.Seq.{take-suc-set, take_all}
use Rattle.compiled.specs.Built.{listed}

pub listed_snoc : (f : ℕ → ℕ) (i n : ℕ) → listed f i (suc n) ≡ listed f i n ++ f (i + n) ∷ []
listed_snoc f i zero = rw (add-zero i)
listed_snoc f i (suc n) =
    ap (λ (w : List ℕ). f i ∷ w)
    (listed_snoc f (suc i) n ∙ ap (λ (k : ℕ). listed f (suc i) n ++ f k ∷ []) (suc-add i n ∙ sym (add-suc i n)))

pub record Filled (f : ℕ → ℕ) (l : List ℕ) (p : ℕ) : Type 0 where
  pub p_in : p ≤ 32
  pub long : length l ≡ 32
  pub are : take p l ≡ listed f 0 p

pub fill_start : (f : ℕ → ℕ) → Filled f (replicate 32 0) 0
fill_start f = record { p_in = omega arith; long = length-replicate {A = ℕ} 32 0; are = refl }

module _ {f : ℕ → ℕ} {l : List ℕ} {p : ℕ} (v : Filled f l p) where
  pub fill_more : p < 32 → {x : ℕ} → x ≡ f p → Filled f (set l p x) (p + 1)
  fill_more h {x} e =
      record {
        p_in = omega arith;
        long = length-set l p x ∙ v.long;
        are =
            rw (add-one p)
            (take-suc-set l p x (rw v.long h)
            ∙ ap (λ (w : List ℕ). w ++ x ∷ []) v.are
            ∙ ap (λ (y : ℕ). listed f 0 p ++ y ∷ []) (e ∙ ap f (sym (zero-add p)))
            ∙ sym (listed_snoc f 0 p));
      }

  pub fill_end : 32 ≤ p → l ≡ listed f 0 32
  fill_end h =
      let z : p ≡ 32 = let y = v.p_in in omega arith in
      sym (take_all 32 l (let y = v.long in omega arith)) ∙ ap (λ (n : ℕ). take n l) (sym z) ∙ v.are ∙ ap (listed f 0) z
