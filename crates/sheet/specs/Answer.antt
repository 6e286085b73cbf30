-- What is answered: "Under 0 the numbers are the length written and the elements selected. Refusals: as for a cut, with 9 giving the length
-- of the whole table." In order: the answer, in the order of a cut's; the buffer; the three numbers for each answer.
use Rattle.std.specs.Prelude.{cond, List, ◌++◌, ℕ, ltb, length, drop, Result, Ok, Err}
use Rattle.paths.specs.Judge.{list_answer}
use Rattle.document.specs.Judge.{judge_of}
use Rattle.trees.specs.Written.{count_of}
use Rattle.rows.specs.Table.{table_of}
use Rattle.cutter.specs.Answer.{by_list, by_document, cut_number, cut_second}
use Rattle.refusals.specs.declared.CutError.{CutError}
use Rattle.refusals.specs.declared.CutError.TheVariants as errors
use Rattle.sheet.specs.declared.Table.{Table}

-- ---- the answer: a list at fault decides, then a document, as for a cut

-- the table w, of c elements selected, in a buffer of `room` bytes
abbrev pub by_room : ℕ → List ℕ → ℕ → Result Table CutError
by_room room w c = cond (ltb room (length w)) (Err (errors.Short (length w))) (Ok (record { length = length w; selected = c }))

-- by a sound list
abbrev pub answer_by : List ℕ → List ℕ → ℕ → Result Table CutError
answer_by list d room = by_document (judge_of d) (by_room room (table_of list d) (count_of list d))

unfoldable pub answer_of : List ℕ → List ℕ → ℕ → Result Table CutError
answer_of list d room = by_list (list_answer list) (answer_by list d room)

-- ---- the buffer

-- on 0 the bytes after the table stay as they were, on any other number the whole buffer does
abbrev pub after : Result Table CutError → List ℕ → List ℕ → List ℕ
after (Ok t) w o = w ++ drop t.length o
after (Err e) w o = o

-- by a sound list, and by any
unfoldable pub bytes_by : List ℕ → List ℕ → List ℕ → List ℕ
bytes_by list d o = after (answer_by list d (length o)) (table_of list d) o

unfoldable pub bytes_after : List ℕ → List ℕ → List ℕ → List ℕ
bytes_after list d o = after (answer_of list d (length o)) (table_of list d) o

-- ---- the numbers: a refusal's are those of a cut

abbrev pub number_of : Result Table CutError → ℕ
number_of (Ok t) = 0
number_of (Err e) = cut_number e

-- length written; 0; the line; 0; the offset; "9 giving the length of the whole table"
abbrev pub second_of : Result Table CutError → ℕ
second_of (Ok t) = t.length
second_of (Err e) = cut_second e

-- "the elements selected", and 0 under every number but 0
abbrev pub third_of : Result Table CutError → ℕ
third_of (Ok t) = t.selected
third_of (Err e) = 0
