-- Document 02, Q-2: "A batch is in our house habit: one version byte 1, then for each document a four-byte big-endian length and its
-- bytes." So a batch is a list of documents, and its bytes are what it prints as. In order: the print; the documents that stand in some
-- bytes, up to the first length at fault; what is answered on the layout. What the answers say is in Layout.antt.
use Rattle.std.specs.Prelude.{Bool, cond, List, [], ◌∷◌, ◌++◌, ℕ, zero, suc, ◌+◌, ◌*◌, ◌/◌, ◌%◌, leb, ltb, eqb, length, get_or, take, drop}
use Rattle.std.specs.Prelude.{Result, Ok, Err}
use Rattle.bundle.specs.declared.LayoutError.{LayoutError}

-- ---- the print

-- "a four-byte big-endian length"
abbrev pub big : ℕ → List ℕ
big n = n / 16777216 % 256 ∷ n / 65536 % 256 ∷ n / 256 % 256 ∷ n % 256 ∷ []

-- "for each document a four-byte big-endian length and its bytes"
abbrev pub print_entries : List (List ℕ) → List ℕ
print_entries [] = []
print_entries (d ∷ ds) = big (length d) ++ d ++ print_entries ds

-- "one version byte 1, then"
abbrev pub print_batch : List (List ℕ) → List ℕ
print_batch ds = 1 ∷ print_entries ds

-- ---- the documents in some bytes

-- the number that four bytes say, the first the highest
abbrev pub number_at : List ℕ → ℕ
number_at s = get_or s 0 0 * 16777216 + get_or s 1 0 * 65536 + get_or s 2 0 * 256 + get_or s 3 0

-- a length at the front that is neither "cut short" nor "runs past the end": the bytes reach as far as it says
abbrev pub whole_at : List ℕ → Bool
whole_at s = leb (4 + number_at s) (length s)

-- the documents from a place on: so many bytes are passed over, then each length tells how many the next is behind
abbrev pub entries_from : ℕ → List ℕ → List (List ℕ)
entries_from k [] = []
entries_from (suc k) (x ∷ s) = entries_from k s
entries_from zero (x ∷ s) =
    let n = number_at (x ∷ s) in
    cond (whole_at (x ∷ s)) (take n (drop 3 s) ∷ entries_from (3 + n) s) []

-- behind the version byte
unfoldable pub entries_of : List ℕ → List (List ℕ)
entries_of b = entries_from 1 b

-- how far whole entries reach: the place of the first length at fault, or the end
unfoldable pub reach_of : List ℕ → ℕ
reach_of b = length (print_batch (entries_of b))

-- ---- the layout: 11 is given "for, in this order, an empty batch, one over 67,108,864 bytes (both offset 0), another version, or the
-- first length that is cut short or runs past the end"

-- the version byte or a length is at fault, at this offset
abbrev pub fault_at : ℕ → Result (Unit {0}) LayoutError
fault_at o = Err (record { at = o })

unfoldable pub layout_of : List ℕ → Result (Unit {0}) LayoutError
layout_of b =
    cond (eqb (length b) 0) (fault_at 0)
    (cond (ltb 67108864 (length b)) (fault_at 0)
    (cond (eqb (get_or b 0 0) 1)
    (cond (ltb (reach_of b) (length b)) (fault_at (reach_of b)) (Ok tt))
    (fault_at 0)))
