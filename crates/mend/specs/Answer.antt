-- What the mending tool answers. "Refusals: 4; then 10; then 12, with the offset of the fault (after such a cut, of the one then found), if
-- no root tag was kept; then 9." In order: the answer; the buffer; the four numbers for each answer.
use Rattle.std.specs.Prelude.{Bool, true, false, cond, List, ◌++◌, ℕ, ltb, length, drop, Result, Ok, Err}
use Rattle.readers.specs.Named.{other_encoding}
use Rattle.document.specs.Judge.{start_of, scanned, second_of as fault_of}
use Rattle.mend.specs.Kept.{Kept, readable, kept_of}
use Rattle.mend.specs.Mended.{mended_by, mended_of}
use Rattle.mend.specs.declared.Mended.{Mended}
use Rattle.mend.specs.declared.MendError.{MendError}
use Rattle.mend.specs.declared.MendError.TheVariants.{TooLong, OtherEncoding, NoRoot, Short}

-- ---- the answer

-- the mended document w, of k bytes kept and n end tags added, in a buffer of `room` bytes
abbrev pub by_room : ℕ → List ℕ → ℕ → ℕ → Result Mended MendError
by_room room w k n = cond (ltb room (length w)) (Err (Short (length w))) (Ok (record { length = length w; kept = k; added = n }))

-- where no root tag was kept, the offset of the fault; else it is left to the room
abbrev pub by_root : Bool → ℕ → Result Mended MendError → Result Mended MendError
by_root true o a = a
by_root false o a = Err (NoRoot o)

-- on a document of characters, by what is kept of it and the offset of the fault
abbrev pub answer_by : List ℕ → Kept → ℕ → ℕ → Result Mended MendError
answer_by d k fault room = by_root k.opened.rooted fault (by_room room (mended_by d k) k.bytes (length k.opened.names))

-- "with the offset of the fault (after such a cut, of the one then found)"
unfoldable pub fault_at : List ℕ → ℕ
fault_at d = fault_of (scanned (readable d))

-- 4 and 10 are judged on the document as it came
unfoldable pub answer_of : List ℕ → ℕ → Result Mended MendError
answer_of d room =
    cond (ltb 16777216 (length d)) (Err TooLong)
    (cond (other_encoding (drop (start_of d) d)) (Err (OtherEncoding (start_of d)))
    (answer_by (readable d) (kept_of (readable d)) (fault_at d) room))

-- ---- the buffer

-- on 0 the bytes after the mended document stay as they were, on any other number the whole buffer does
abbrev pub after : Result Mended MendError → List ℕ → List ℕ → List ℕ
after (Ok m) w o = w ++ drop m.length o
after (Err e) w o = o

unfoldable pub bytes_after : List ℕ → List ℕ → List ℕ
bytes_after d o = after (answer_of d (length o)) (mended_of d) o

-- ---- the numbers

abbrev pub number_of : Result Mended MendError → ℕ
number_of (Ok m) = 0
number_of (Err TooLong) = 4
number_of (Err (OtherEncoding o)) = 10
number_of (Err (NoRoot f)) = 12
number_of (Err (Short n)) = 9

-- length written; 0; the declaration's offset; the offset of the fault; the length needed
abbrev pub second_of : Result Mended MendError → ℕ
second_of (Ok m) = m.length
second_of (Err TooLong) = 0
second_of (Err (OtherEncoding o)) = o
second_of (Err (NoRoot f)) = f
second_of (Err (Short n)) = n

-- "Under 0 it reports the length written, the bytes kept and the end tags added; otherwise the last two are 0"
abbrev pub kept_number : Result Mended MendError → ℕ
kept_number (Ok m) = m.kept
kept_number (Err e) = 0

abbrev pub added_number : Result Mended MendError → ℕ
added_number (Ok m) = m.added
added_number (Err e) = 0
