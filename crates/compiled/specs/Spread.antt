-- Row 0 added to every other row:
-- what the last pass over the rows needs, and what it does.
use Rattle.std.specs.Prelude.{◌≡◌, List, ℕ, ◌+◌, ◌%◌, ◌≤◌, ◌<◌, length, get_or}

-- each sum fits 16 bits
pub record Spreadable (l : List ℕ) : Type 0 where
  pub long : length l ≡ 16416
  pub fits : (i : ℕ) → 32 ≤ i → i < 16416 → get_or l i 0 + get_or l (i % 32) 0 < 65536

pub record Spread (l l' : List ℕ) : Type 0 where
  pub long : length l' ≡ 16416
  pub first : (i : ℕ) → i < 32 → get_or l' i 0 ≡ get_or l i 0
  pub other : (i : ℕ) → 32 ≤ i → i < 16416 → get_or l' i 0 ≡ get_or l i 0 + get_or l (i % 32) 0
