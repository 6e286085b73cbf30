-- The classes of name characters by productions [4] and [4a]; the table of those below U+0300, a bit for each code point and class. Last,
-- ranges as the code keeps them, a first and a last number each.
use Rattle.std.specs.Prelude.{Bool, true, false, cond, ◌&&◌, List, [], ◌∷◌, ◌++◌, ℕ, zero, suc, ◌+◌, ◌*◌, ◌/◌, ◌%◌, ◌^◌, leb, get_or}
use Rattle.std.specs.List.{list_any}
use Rattle.xml.specs.Productions.{is_name_start, is_name_more, is_name}

-- 2 starts a name, 1 only goes on with one, 0 does neither
unfoldable pub class_of : ℕ → ℕ
class_of c = cond (is_name_start c) 2 (cond (is_name_more c) 1 0)

-- ---- "Keep the two classes as one bit each, 96 bytes a class"

abbrev pub bit : Bool → ℕ
bit true = 1
bit false = 0

-- the bits of n code points from c on, the first of them the lowest
abbrev pub bits_from : (ℕ → Bool) → ℕ → ℕ → ℕ
bits_from f c zero = 0
bits_from f c (suc n) = bit (f c) + 2 * bits_from f (suc c) n

-- n bytes of eight code points each, from c on
abbrev pub bytes_from : (ℕ → Bool) → ℕ → ℕ → List ℕ
bytes_from f c zero = []
bytes_from f c (suc n) = bits_from f c 8 ∷ bytes_from f (c + 8) n

-- those below U+0300: first which start a name, then which go on with one
unfoldable pub class_table : List ℕ
class_table = bytes_from is_name_start 0 96 ++ bytes_from is_name 0 96

-- the bit of the code point c, in the class whose bytes begin at the place `from`: bit c % 8 of byte c / 8
unfoldable pub bit_at : List ℕ → ℕ → ℕ → ℕ
bit_at t from c = get_or t (from + c / 8) 0 / 2 ^ (c % 8) % 2

-- c lies in one of the ranges, each a first and a last number
abbrev pub pairs : List (ℕ × ℕ) → ℕ → Bool
pairs ranges c = list_any (λ r. leb r.0 c && leb c r.1) ranges
