-- Bytes passed in blocks: what is left from the first byte of a class on; that none of a class is skipped, and that Chars alone are passed;
-- whether a class has one of n places, and the first of them; and what a plain byte is not.
use Rattle.std.specs.Prelude.{◌≡◌, Bool, true, false, cond, not, ◌&&◌, ◌||◌, List, [], ◌∷◌, ℕ, zero, suc, ◌≤◌, ◌<◌, ltb, length, drop}
use Rattle.xml.specs.Character.{run}
use Rattle.xml.specs.Productions.{is_char}

-- s from its first byte of the class p on
unfoldable pub until : (ℕ → Bool) → List ℕ → List ℕ
until p [] = []
until p (b ∷ s) = cond (p b) (b ∷ s) (until p s)

-- no byte of the class p stands in d from `from` up to i
pub record Skips (p : ℕ → Bool) (d : List ℕ) (from i : ℕ) : Type 0 where
  pub ahead : from ≤ i
  pub inside : i ≤ length d
  pub same : until p (drop i d) ≡ until p (drop from d)

-- from `from` up to i there are Chars alone
pub record Passes (d : List ℕ) (from i : ℕ) : Type 0 where
  pub ahead : from ≤ i
  pub inside : i ≤ length d
  pub same : run is_char 0 (drop i d) ≡ run is_char 0 (drop from d)

-- the test holds at one of the places below n
unfoldable pub some_of : (ℕ → Bool) → ℕ → Bool
some_of p zero = false
some_of p (suc n) = some_of p n || p n

-- t is the first of n places at which the test holds, or n
pub record First (p : ℕ → Bool) (n t : ℕ) : Type 0 where
  pub within : t ≤ n
  pub passed : (k : ℕ) → k < t → p k ≡ false
  pub found : t < n → p t ≡ true

-- a byte that is no ASCII character of [2] Char
unfoldable pub is_other : ℕ → Bool
is_other b = not (ltb b 0x80 && is_char b)
