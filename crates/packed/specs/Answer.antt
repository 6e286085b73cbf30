-- What is answered, and what stands in the buffer afterwards: of the writer, from text to the packed form, and of the reader, back to text.
-- In order: room; the writer; the reader; the three numbers for each answer.
use Rattle.std.specs.Prelude.{cond, List, ◌++◌, ℕ, ltb, length, drop, Result, Ok, Err}
use Rattle.std.proofs.Math.Option.{Option, none, some}
use Rattle.paths.specs.Judge.{list_answer}
use Rattle.paths.specs.Answer.{list_number, list_second}
use Rattle.paths.specs.declared.ListError.{ListError}
use Rattle.packed.specs.Packed.{pack_of}
use Rattle.packed.specs.Spelled.{text_of}
use Rattle.packed.specs.declared.PackError.{PackError}
use Rattle.packed.specs.declared.PackError.TheVariants.{List as OfList, NotPacked, Short}

-- w in a buffer of `room` bytes: "after these 9 with the length needed"
abbrev pub by_room : ℕ → List ℕ → Result ℕ PackError
by_room room w = cond (ltb room (length w)) (Err (Short (length w))) (Ok (length w))

-- the bytes after the result stay as they were, and on a refusal the whole buffer does
abbrev pub after : Result ℕ PackError → List ℕ → List ℕ → List ℕ
after (Ok n) w o = w ++ drop n o
after (Err e) w o = o

-- ---- the writer: "text keeps 1 to 3"

abbrev pub by_list : Result (Unit {0}) ListError → Result ℕ PackError → Result ℕ PackError
by_list (Ok u) a = a
by_list (Err e) a = Err (OfList e)

unfoldable pub pack_answer : List ℕ → ℕ → Result ℕ PackError
pack_answer s room = by_list (list_answer s) (by_room room (pack_of s))

unfoldable pub pack_bytes : List ℕ → List ℕ → List ℕ
pack_bytes s o = after (pack_answer s (length o)) (pack_of s) o

-- ---- the reader: "gives 13 .. exactly when its input is the packed form of no sound text list"

abbrev pub by_text : Option (List ℕ) → ℕ → Result ℕ PackError
by_text none room = Err NotPacked
by_text (some s) room = by_room room s

unfoldable pub unpack_answer : List ℕ → ℕ → Result ℕ PackError
unpack_answer d room = by_text (text_of d) room

-- the buffer o, with the text where there is one and room for it
abbrev pub laid_text : Option (List ℕ) → List ℕ → List ℕ
laid_text none o = o
laid_text (some s) o = after (by_room (length o) s) s o

unfoldable pub unpack_bytes : List ℕ → List ℕ → List ℕ
unpack_bytes d o = laid_text (text_of d) o

-- ---- "Numbers handed back": "13, with second number 0"; "The third number is always 0"

abbrev pub error_number : PackError → ℕ
error_number (OfList e) = list_number e
error_number NotPacked = 13
error_number (Short n) = 9

-- the list's own; 0; the length needed
abbrev pub error_second : PackError → ℕ
error_second (OfList e) = list_second e
error_second NotPacked = 0
error_second (Short n) = n

abbrev pub number_of : Result ℕ PackError → ℕ
number_of (Ok n) = 0
number_of (Err e) = error_number e

-- the length written
abbrev pub second_of : Result ℕ PackError → ℕ
second_of (Ok n) = n
second_of (Err e) = error_second e
