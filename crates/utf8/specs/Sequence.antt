-- One sequence at a place: its code point and the place after it. Then the nine rows as the code keeps them, four cells a row, and the test
-- of four bytes by them; proofs/Sequence.antt shows that this test finds the character.
use Rattle.std.specs.Prelude.{Bool, cond, not, ◌&&◌, ◌||◌, List, [], ◌∷◌, ℕ, ◌+◌, ltb, leb, length, drop, get_or, Option, Some, None}
use Rattle.std.proofs.Math.Option.{Option as Maybe, none, some}
use Rattle.xml.specs.Range.{Range, ◌–◌, inside}
use Rattle.xml.specs.Utf8.{utf8, Row, rows, size_of}
use Rattle.xml.specs.Character.{character}

abbrev pub point_at : ℕ → Maybe ℕ → Option (ℕ × ℕ)
point_at at none = None
point_at at (some c) = Some (c, at + length (utf8 c))

-- the character that stands at the place at of d
unfoldable pub sequence_at : List ℕ → ℕ → Option (ℕ × ℕ)
sequence_at d at = point_at at (character (drop at d))

-- ---- the rows as the code keeps them: first byte from, to; second byte from, to

abbrev pub seconds : Maybe Range → List ℕ
seconds none = 0 ∷ 0 ∷ []
seconds (some r) = r.low ∷ r.high ∷ []

abbrev pub cells : Row → List ℕ
cells r = r.first.low ∷ r.first.high ∷ seconds r.second

abbrev pub cell_rows : List Row → List (List ℕ)
cell_rows [] = []
cell_rows (r ∷ rs) = cells r ∷ cell_rows rs

-- the first row that has the first byte a; where there is none, empty ranges
abbrev pub cells_in : List Row → ℕ → List ℕ
cells_in [] a = 1 ∷ 0 ∷ 1 ∷ 0 ∷ []
cells_in (r ∷ rs) a = cond (inside r.first a) (cells r) (cells_in rs a)

unfoldable pub cells_of : ℕ → List ℕ
cells_of a = cells_in rows a

-- a sequence of n bytes begins with a, by its row, and b, c and d go on with it
unfoldable pub formed_by : ℕ → List ℕ → ℕ → ℕ → ℕ → Bool
formed_by n row b c d =
    not (ltb (get_or row 1 0) (get_or row 0 0))
    && (ltb n 2
    || leb (get_or row 2 0) b && leb b (get_or row 3 0)
    && (ltb n 3 || inside (0x80 – 0xBF) c && (ltb n 4 || inside (0x80 – 0xBF) d)))

unfoldable pub formed : ℕ → ℕ → ℕ → ℕ → Bool
formed a b c d = formed_by (size_of a) (cells_of a) b c d
