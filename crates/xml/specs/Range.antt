-- Ranges of numbers, by which document 01 and the Recommendation write bytes and characters, and the class that a list of ranges makes:
-- within one of them.
use Rattle.std.specs.Prelude.{Bool, false, ◌&&◌, ◌||◌, List, [], ◌∷◌, ℕ, leb}
use Prim.Native.Char.{Char, code}

-- from low to high, both included
pub record Range : Type 0 where
  pub low : ℕ
  pub high : ℕ

-- [#x41-#x5A], #x41, [A-Z] and 'A'
infix 70 ◌–◌
abbrev pub ◌–◌ : ℕ → ℕ → Range
a – b = record { low = a; high = b }

abbrev pub only : ℕ → Range
only a = a – a

infix 70 ◌to◌
abbrev pub ◌to◌ : Char → Char → Range
a to b = code a – code b

abbrev pub sign : Char → Range
sign a = only (code a)

abbrev pub inside : Range → ℕ → Bool
inside r c = leb r.low c && leb c r.high

-- c lies in one of the ranges
abbrev pub within : List Range → ℕ → Bool
within [] c = false
within (r ∷ rs) c = inside r c || within rs c
