-- The ways through `selecting`: from the last path to the first,
-- the bits so far are those of the paths from p on.
use mathlib.Core.Path.{◌≡◌, refl, ap, ◌∙◌}
use mathlib.Core.Bool.{Bool, true, false, not}
use mathlib.Core.List.{List}
use Prim.Native.Nat.{ℕ, zero, suc, ◌+◌, ◌-◌, ◌*◌, ◌^◌, ◌≤◌, ◌<◌}
use native.Mathlib.Nat.{pow-le-pow_right}
use native.Mathlib.Omega.{arith}
use borrow.Author.Tests.{ne_eqb}
use lib.Bits.{bit_and}
use lib.Dec.{eqb}
use lib.ListN.{length, get_or}
use Rattle.compiled.specs.Bits.{bit, bits_of}
use Rattle.compiled.specs.Built.{listed}
use Rattle.compiled.proofs.Bits.{bits_below}
use Rattle.compiled.proofs.Listed.{listed_many}
use Rattle.matcher.specs.State.{hits_of, hits_at, nonzero, hit_at, selecting_by}
use Rattle.matcher.specs.declared.fit.Fit.{Fit}
use Rattle.matcher.specs.declared.state.MatchState.{MatchState}
use mir.Val.{bool_byte}

-- whether a number is not 0, as a number
set_bit : (n : ℕ) → bool_byte (not (eqb n 0)) ≡ bit (nonzero n)
set_bit zero = refl
set_bit (suc n) = rw (ne_eqb (suc n) 0 (λ e. omega arith))

pub set_few : (b : Bool) {k : ℕ} → k ≡ bool_byte b → k ≤ 1
set_few true e = omega arith
set_few false e = omega arith

module _ (state passes stays goes lasts : List ℕ) where
  -- whether path p selects
  abbrev selects_at : ℕ → Bool
  selects_at p = nonzero (hit_at state passes stays goes lasts p)

  -- the bits of the paths from p on
  pub record Selecting (p bits : ℕ) : Type 0 where
    pub inside : p ≤ 32
    pub bits_are : bits ≡ bits_of (listed selects_at p (32 - p))

  pub select_start : Selecting 32 0
  select_start = record { inside = omega arith; bits_are = refl }

module _ {state passes stays goes lasts : List ℕ} {p bits : ℕ} (v : Selecting state passes stays goes lasts p bits) where
  module _ (l : 0 < p) where
    pub select_number : p - 1 < 32
    select_number = let i = v.inside in omega arith

    pub select_below : bits < 2147483648
    select_below =
        let bs = listed (selects_at state passes stays goes lasts) p (32 - p) in
        let n = listed_many (selects_at state passes stays goes lasts) p (32 - p) in
        let a = bits_below bs in
        let i : length bs ≤ 31 = omega arith in
        let b : 2 ^ length bs ≤ 2 ^ 31 = pow-le-pow_right {n = 2} (omega arith) i in
        let c : 2 ^ 31 ≡ 2147483648 = refl in
        let e = v.bits_are in
        omega arith

    pub select_more : {t : ℕ} → t ≡ hits_of (get_or state (p - 1) 0) (get_or passes (p - 1) 0) (get_or stays (p - 1) 0)
        (get_or goes (p - 1) 0)
        → {k : ℕ} → k ≡ bool_byte (not (eqb (bit_and t (get_or lasts (p - 1) 0)) 0))
        → Selecting state passes stays goes lasts (p - 1) (bits * 2 + k)
    unfolding hit_at hits_at
    select_more {t} e {k} g =
        let f = selects_at state passes stays goes lasts in
        let i = v.inside in
        let y : suc (p - 1) ≡ p = omega arith in
        let z : 32 - (p - 1) ≡ suc (32 - p) = omega arith in
        let next : bits_of (listed f (p - 1) (32 - (p - 1))) ≡ bit (f (p - 1)) + 2 * bits_of (listed f p (32 - p)) =
        ap (λ (n : ℕ). bits_of (listed f (p - 1) n)) z
        ∙ ap (λ (q : ℕ). bit (f (p - 1)) + 2 * bits_of (listed f q (32 - p))) y in
        let u : k ≡ bit (f (p - 1)) =
        g ∙ set_bit (bit_and t (get_or lasts (p - 1) 0)) ∙ ap (λ (n : ℕ). bit (nonzero (bit_and n (get_or lasts (p - 1) 0)))) e in
        let w = v.bits_are in
        record { inside = omega arith; bits_are = omega arith }

pub select_end : (m : MatchState) (f : Fit) {p bits : ℕ} → Selecting m.bits f.passes f.stays f.goes f.lasts p bits → p ≤ 0
    → bits ≡ selecting_by m f
unfolding selecting_by
select_end m f {p} v l =
    let z : p ≡ 0 = omega arith in
    v.bits_are ∙ ap (λ (q : ℕ). bits_of (listed (selects_at m.bits f.passes f.stays f.goes f.lasts) q (32 - q))) z

pub ruleset selecting = (select_start, select_number, select_below, select_more, select_end)
