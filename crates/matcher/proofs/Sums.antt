-- `hits`, on 16 bits: the numbers fit,
-- and the sum's carry out of them changes nothing.
use mathlib.Core.Path.{◌≡◌, sym, ap, ◌∙◌}
use Prim.Native.Nat.{ℕ, ◌+◌, ◌-◌, ◌%◌, ◌<◌}
use native.Mathlib.Nat.{mod-eq_of_lt}
use native.Mathlib.Omega.{arith}
use lib.Bits.{bit_and, bit_or, and_le_l, and_le_r, or_lt, and_mod}
use Rattle.matcher.specs.State.{flood, hits_of}

-- a number of 16 bits sees no more of the other
and_wrap : (x y : ℕ) → x < 65536 → bit_and x (y % 65536) ≡ bit_and x y
and_wrap x y l =
    let z : bit_and x y < 65536 = let w = and_le_l x y in omega arith in
    sym (sym (mod-eq_of_lt z) ∙ and_mod x y 16 ∙ ap (λ (u : ℕ). bit_and u (y % 65536)) (mod-eq_of_lt l))

module _ (state passes stays goes : ℕ) (l : passes < 65536) where
  abbrev from : ℕ
  from = bit_and (bit_and state goes) passes

  abbrev on : ℕ
  on = bit_and stays passes

  pub from_fits : from < 65536
  from_fits = let w = and_le_r (bit_and state goes) passes in omega arith

  on_fits : on < 65536
  on_fits = let w = and_le_r stays passes in omega arith

  pub both_fits : bit_or from on < 65536
  both_fits = or_lt 16 from on from_fits on_fits

  pub hits_wrap : bit_or from (on - bit_and on ((from + bit_or from on) % 65536)) ≡ hits_of state passes stays goes
  unfolding hits_of flood
  hits_wrap = ap (λ (u : ℕ). bit_or from (on - u)) (and_wrap on (from + bit_or from on) on_fits)
