-- Laws of a number in decimal: any number of turns that suffices gives the same digits; the digits before the last are those of a tenth;
-- how many there are; and digits laid into a buffer.
use mathlib.Core.Path.{◌≡◌, refl, ap}
use mathlib.Core.Bool.{Bool, true, false, cond}
use mathlib.Core.List.{List, [], ◌∷◌, ◌++◌}
use Prim.Native.Nat.{ℕ, zero, suc, ◌+◌, ◌*◌, ◌/◌, ◌^◌, ◌≤◌, ◌<◌}
use native.Mathlib.Nat.{pow-succ'}
use native.Mathlib.Omega.{arith}
use borrow.Author.Tests.{lt-ltb, le-ltb, ltb-false}
use lib.Dec.{ltb}
use lib.ListN.{length, length-append}
use Rattle.writer.specs.Wrote.{Wrote}
use Rattle.writer.proofs.Laying.{wrote_more}
use Rattle.report.specs.Decimal.{last_digit, decimal_by, decimal}

decimal_turns : (k j n : ℕ) → n < k → n < j → decimal_by k n ≡ decimal_by j n
unfolding decimal_by
decimal_turns zero j n p q = absurd (omega arith)
decimal_turns (suc k) zero n p q = absurd (omega arith)
decimal_turns (suc k) (suc j) n p q =
    go (ltb n 10) refl (λ l. decimal_turns k j (n / 10) (omega arith) (omega arith))
  where
    go : (x : Bool) → ltb n 10 ≡ x → (10 ≤ n → decimal_by k (n / 10) ≡ decimal_by j (n / 10))
        → cond x [] (decimal_by k (n / 10)) ++ (last_digit n ∷ []) ≡ cond x [] (decimal_by j (n / 10)) ++ (last_digit n ∷ [])
    go true e h = refl
    go false e h = rw (h (ltb-false n 10 e))

pub decimal_one : (n : ℕ) → n < 10 → last_digit n ∷ [] ≡ decimal n
unfolding decimal decimal_by
decimal_one n l = rw (lt-ltb n 10 l)

pub decimal_more : (n : ℕ) → 10 ≤ n → decimal (n / 10) ++ (last_digit n ∷ []) ≡ decimal n
unfolding decimal decimal_by
decimal_more n l =
    let m = n / 10 in
    let e : decimal_by (suc m) m ≡ decimal_by n m = decimal_turns (suc m) n m (omega arith) (omega arith) in
    rw (le-ltb n 10 l) (ap (λ (s : List ℕ). s ++ (last_digit n ∷ [])) e)

-- a number below a power of ten has at most so many digits
by_short : (m k n : ℕ) → n < 10 ^ suc k → length (decimal_by m n) ≤ suc k
unfolding decimal_by
by_short zero k n h = omega arith
by_short (suc m) k n h = simp length-append (go (ltb n 10) refl k h (by_short m))
  where
    go : (x : Bool) → ltb n 10 ≡ x → (k : ℕ) → n < 10 ^ suc k
        → ((k n : ℕ) → n < 10 ^ suc k → length (decimal_by m n) ≤ suc k) → length (cond x [] (decimal_by m (n / 10))) + 1 ≤ suc k
    go true e k h f = omega arith
    go false e zero h f = absurd (omega (arith, ltb-false n 10 e))
    go false e (suc k) h f =
        let p : 10 ^ suc (suc k) ≡ 10 * 10 ^ suc k = pow-succ' 10 (suc k) in
        omega (arith, f k (n / 10) (omega (arith, p)))

-- a u64 has at most 20 digits, and a tenth of it 19
pub decimal_short : (n : ℕ) → n < 18446744073709551616 → length (decimal n) ≤ 20
unfolding decimal
decimal_short n h = by_short (suc n) 19 n (omega arith)

pub tenth_short : (n : ℕ) → n < 18446744073709551616 → length (decimal (n / 10)) ≤ 19
unfolding decimal
tenth_short n h = by_short (suc (n / 10)) 18 (n / 10) (omega arith)

-- ---- laid into a buffer

pub wrote_digit : {o o' : List ℕ} {at r : ℕ} (n : ℕ) → n < 10 → Wrote o at ((48 + n) ∷ []) r o' → Wrote o at (decimal n) r o'
wrote_digit {o} {o'} {at} {r} n l w =
    let e : 48 + n ≡ last_digit n = omega arith in
    rw (← decimal_one n l, ← e) w

pub wrote_digits : {o o₁ o₂ : List ℕ} {at a b : ℕ} (n : ℕ) → 10 ≤ n → Wrote o at (decimal (n / 10)) a o₁
    → Wrote o₁ a (last_digit n ∷ []) b o₂ → Wrote o at (decimal n) b o₂
wrote_digits {o} {at = at} {b = b} n l p q = rw (← decimal_more n l) (wrote_more p q)

pub ruleset decimals = (wrote_digit, wrote_digits)
