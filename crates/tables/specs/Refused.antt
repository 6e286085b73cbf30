-- "Refusals: as for a cut, with 9 giving the length of the whole table": what is answered where a table is asked for and where a cut is,
-- by a list and of a document of which x and y are said. The table has the bytes w, c elements are selected, and the buffer has `room`
-- bytes.
use Rattle.std.specs.Prelude.{◌≡◌, List, ℕ, ◌≤◌, ◌<◌, length, Result, Ok, ⊤}
use Rattle.paths.specs.declared.ListError.{ListError}
use Rattle.document.specs.declared.DocumentError.{DocumentError}
use Rattle.cutter.specs.declared.answer.Cut.{Cut}
use Rattle.refusals.specs.declared.CutError.{CutError}
use Rattle.cutter.specs.Answer.{number_of as cut_number, second_of as cut_second}
use Rattle.sheet.specs.declared.Table.{Table}
use Rattle.sheet.specs.Answer.{number_of, second_of, third_of}

-- the list or the document is at fault: both are refused with the same numbers; else the room for the table decides
pub data Refused (x : Result ⊤ ListError) (y : Result ⊤ DocumentError) (w : List ℕ) (c room : ℕ)
    (a : Result Cut CutError) (b : Result Table CutError) : Type 0 where
  alike : (x ≡ Ok tt → y ≡ Ok tt → ⊥) → number_of b ≡ cut_number a → second_of b ≡ cut_second a → third_of b ≡ 0
      → Refused x y w c room a b
  short : x ≡ Ok tt → y ≡ Ok tt → room < length w → number_of b ≡ 9 → second_of b ≡ length w → third_of b ≡ 0
      → Refused x y w c room a b
  written : x ≡ Ok tt → y ≡ Ok tt → length w ≤ room → number_of b ≡ 0 → second_of b ≡ length w → third_of b ≡ c
      → Refused x y w c room a b
