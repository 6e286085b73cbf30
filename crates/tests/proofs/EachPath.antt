-- The laws of `passing_from`: the paths from p on that pass are those after p, and path p if its bit is set and it passes. They are among
-- those whose bit is set, so the sum fits 32 bits. In order: one path off the front; the ways through.
use mathlib.Core.Path.{◌≡◌, refl, sym, ap, ap₂, ◌∙◌}
use mathlib.Core.Bool.{Bool, true, false, ◌&&◌, and-false}
use mathlib.Core.List.{List, [], ◌∷◌}
use Prim.Native.Nat.{ℕ, zero, suc, ◌+◌, ◌-◌, ◌*◌, ◌/◌, ◌%◌, ◌^◌, ◌≤◌, ◌<◌}
use native.Mathlib.Nat.{pos_of_ne-zero, pow-le-pow_right, two-pow-succ}
use native.Mathlib.Numerals.{add-one}
use native.Mathlib.Omega.{arith}
use borrow.Author.Rules.{rules}
use borrow.Author.Tests.{eq-eqb, ne_eqb}
use lib.ListN.{drop}
use Rattle.paths.specs.Path.{Path}
use Rattle.attributes.specs.Attribute.{Attribute}
use Rattle.compiled.specs.Bits.{bit}
use Rattle.matcher.specs.Pick.{passes_test}
use Rattle.matcher.specs.Picked.{odd, passing_of}
use Rattle.matcher.proofs.Digits.{low}
use Rattle.matcher.proofs.Picking.{bits_number, bits_fewer, bits_less}
use Rattle.tests.specs.Passing.{passes_at}

-- ---- one path off the front

passing_first : (ps : List Path) (p bits : ℕ) (xs : List Attribute)
    → passing_of (drop p ps) bits xs ≡ bit (passes_at ps xs p && odd bits) + 2 * passing_of (drop (p + 1) ps) (bits / 2) xs
unfolding passing_of passes_at
passing_first ps p bits xs = rw (add-one p) (go ps p)
  where
    go : (ps : List Path) (p : ℕ)
        → passing_of (drop p ps) bits xs ≡ bit (passes_at ps xs p && odd bits) + 2 * passing_of (drop (suc p) ps) (bits / 2) xs
    go [] zero = refl
    go [] (suc p) = refl
    go (q ∷ ps) zero = refl
    go (q ∷ ps) (suc p) = go ps p

passing_unset : (ps : List Path) (xs : List Attribute) → passing_of ps 0 xs ≡ 0
unfolding passing_of
passing_unset [] xs = refl
passing_unset (p ∷ ps) xs =
    ap₂ (λ (b : Bool) (k : ℕ). bit b + 2 * k) (and-false (passes_test p.test xs)) (passing_unset ps xs)

-- no bit is set that was not
passing_among : (ps : List Path) (bits : ℕ) (xs : List Attribute) → passing_of ps bits xs ≤ bits
unfolding passing_of
passing_among [] bits xs = omega arith
passing_among (p ∷ ps) bits xs =
    let rest = passing_among ps (bits / 2) xs in
    let first = both (passes_test p.test xs) (odd bits) in
    let z = low bits in
    omega arith
  where
    both : (b c : Bool) → bit (b && c) ≤ bit c
    both true c = omega arith
    both false true = omega arith
    both false false = omega arith

-- ---- `passing_from`

-- no path is left
pub passing_none : (ps : List Path) {bits : ℕ} (xs : List Attribute) → bits ≡ 0 → 0 ≡ passing_of ps bits xs
passing_none ps xs e = rw e (sym (passing_unset ps xs))

module _ (ps : List Path) (xs : List Attribute) (bits p : ℕ) {rest : ℕ} (r : rest ≡ passing_of (drop (p + 1) ps) (bits / 2) xs) where
  module _ (l : bits < 2 ^ (32 - p)) where
    pub passing_fits_more : rest * 2 + 1 < 2 ^ 32
    passing_fits_more =
        let z = passing_among (drop (p + 1) ps) (bits / 2) xs in
        let i : 32 - p ≤ 32 = omega arith in
        let y : 2 ^ (32 - p) ≤ 2 ^ 32 = pow-le-pow_right {n = 2} (omega arith) i in
        let x : 2 ^ 32 ≡ 4294967296 = refl in
        omega arith

    pub passing_fits : rest * 2 < 2 ^ 32
    passing_fits = let z = passing_fits_more in omega arith

  joined : (b : Bool) → passes_at ps xs p && odd bits ≡ b → bit b + 2 * rest ≡ passing_of (drop p ps) bits xs
  joined b e =
      ap (λ (k : ℕ). bit b + 2 * k) r
      ∙ sym (passing_first ps p bits xs ∙ ap (λ (c : Bool). bit c + 2 * passing_of (drop (p + 1) ps) (bits / 2) xs) e)

  pub passing_past : bits % 2 ≡ 0 → rest * 2 ≡ passing_of (drop p ps) bits xs
  passing_past e =
      let z = joined false (rw (ne_eqb (bits % 2) 1 (λ z. omega arith)) (and-false (passes_at ps xs p))) in
      omega arith

  pub passing_failed : {b : Bool} → b ≡ passes_at ps xs p → b ≡ false → rest * 2 ≡ passing_of (drop p ps) bits xs
  passing_failed e f = let z = joined false (rw (sym e ∙ f)) in omega arith

  pub passing_more : (bits % 2 ≡ 0 → ⊥) → {b : Bool} → b ≡ passes_at ps xs p → b ≡ true → rest * 2 + 1 ≡ passing_of (drop p ps) bits xs
  passing_more n e t =
      let set : bits % 2 ≡ 1 = let z = pos_of_ne-zero n in omega arith in
      let z = joined true (rw (sym e ∙ t, eq-eqb (bits % 2) 1 set)) in
      omega arith

pub ruleset passing = (
  passing_none,
  passing_fits,
  passing_fits_more,
  passing_past,
  passing_failed,
  passing_more,
  bits_number,
  bits_fewer,
  bits_less,
  rules,
)
