-- UTF-8, twice: how a code point is written (Unicode, table 3-6), and the table of well-formed sequences as document 01 keeps it, nine rows
-- of first and second byte ranges. proofs/Utf8.antt shows that the two agree: the sequences of the table are the scalar values, written.
use Rattle.std.specs.Prelude.{Bool, true, false, cond, ◌&&◌, ◌||◌, List, [], ◌∷◌, ℕ, ◌+◌, ◌/◌, ◌%◌, ltb, eqb, length}
use Rattle.std.proofs.Math.Option.{Option, none, some}
use Rattle.xml.specs.Range.{Range, ◌–◌, inside, within}

-- a code point, by whether it is below 0x80, 0x800 and 0x10000
abbrev pub encode : Bool → Bool → Bool → ℕ → List ℕ
encode true y z c = c ∷ []
encode false true z c = (0xC0 + c / 0x40) ∷ (0x80 + c % 0x40) ∷ []
encode false false true c = (0xE0 + c / 0x1000) ∷ (0x80 + c / 0x40 % 0x40) ∷ (0x80 + c % 0x40) ∷ []
encode false false false c =
    (0xF0 + c / 0x40000) ∷ (0x80 + c / 0x1000 % 0x40) ∷ (0x80 + c / 0x40 % 0x40) ∷ (0x80 + c % 0x40) ∷ []

unfoldable pub utf8 : ℕ → List ℕ
utf8 c = encode (ltb c 0x80) (ltb c 0x800) (ltb c 0x10000) c

-- the code points that are characters' numbers: all but the surrogates
unfoldable pub is_scalar : ℕ → Bool
is_scalar = within (0x0 – 0xD7FF ∷ 0xE000 – 0x10FFFF ∷ [])

-- a row: the range of the first byte, and that of the second where there is one
pub record Row : Type 0 where
  pub first : Range
  pub second : Option Range

infix 65 ◌then◌
abbrev pub ◌then◌ : Range → Option Range → Row
a then b = record { first = a; second = b }

unfoldable pub rows : List Row
rows =
    (0x00 – 0x7F then none)
    ∷ (0xC2 – 0xDF then some (0x80 – 0xBF))
    ∷ (0xE0 – 0xE0 then some (0xA0 – 0xBF))
    ∷ (0xE1 – 0xEC then some (0x80 – 0xBF))
    ∷ (0xED – 0xED then some (0x80 – 0x9F))
    ∷ (0xEE – 0xEF then some (0x80 – 0xBF))
    ∷ (0xF0 – 0xF0 then some (0x90 – 0xBF))
    ∷ (0xF1 – 0xF3 then some (0x80 – 0xBF))
    ∷ (0xF4 – 0xF4 then some (0x80 – 0x8F))
    ∷ []

-- "first bytes E0–EF take three bytes in all, F0–F4 four"
unfoldable pub size_of : ℕ → ℕ
size_of a = cond (ltb a 0x80) 1 (cond (ltb a 0xE0) 2 (cond (ltb a 0xF0) 3 4))

-- "third and fourth bytes are 80–BF"
abbrev pub later : List ℕ → Bool
later [] = true
later (b ∷ w) = inside (0x80 – 0xBF) b && later w

abbrev pub follows : Option Range → List ℕ → Bool
follows none [] = true
follows none (b ∷ w) = false
follows (some r) [] = false
follows (some r) (b ∷ w) = inside r b && later w

abbrev pub by_row : List Row → ℕ → List ℕ → Bool
by_row [] a w = false
by_row (r ∷ rs) a w = inside r.first a && follows r.second w || by_row rs a w

-- a sequence of the table
unfoldable pub well_formed : List ℕ → Bool
well_formed [] = false
well_formed (a ∷ w) = eqb (length (a ∷ w)) (size_of a) && by_row rows a w
