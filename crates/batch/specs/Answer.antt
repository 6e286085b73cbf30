-- The result of a batch by a list, what is answered, and what stands in the buffer afterwards. In order: an entry; the result, "the same
-- layout"; the answer, "after 1 to 3 comes 11 .. then 9"; the buffer; the three numbers for each answer.
use Rattle.std.specs.Prelude.{cond, List, [], ◌∷◌, ◌++◌, map, ℕ, ◌+◌, ltb, length, drop, Result, Ok, Err, ⊤}
use Rattle.paths.specs.Judge.{list_answer}
use Rattle.paths.specs.Answer.{list_number, list_second}
use Rattle.paths.specs.declared.ListError.{ListError}
use Rattle.document.specs.Judge.{judge_of}
use Rattle.document.specs.declared.DocumentError.{DocumentError}
use Rattle.trees.specs.Written.{cut_of, count_of}
use Rattle.bundle.specs.Batch.{print_batch, entries_of, layout_of}
use Rattle.bundle.specs.declared.LayoutError.{LayoutError}
use Rattle.batch.specs.declared.Batch.{Batch}
use Rattle.batch.specs.declared.BatchError.{BatchError}
use Rattle.batch.specs.declared.BatchError.TheVariants as errors

-- ---- an entry

-- of a document that is sound, and of one that "is refused by 4 to 8 or 10"
abbrev pub of_sound : {A : Type 0} → Result ⊤ DocumentError → A → A → A
of_sound (Ok u) a b = a
of_sound (Err e) a b = b

-- "the cut of each document, or length 0 where that document is refused by 4 to 8 or 10"
unfoldable pub entry_of : List ℕ → List ℕ → List ℕ
entry_of list d = of_sound (judge_of d) (cut_of list d) []

-- the elements selected in it
unfoldable pub selected_of : List ℕ → List ℕ → ℕ
selected_of list d = of_sound (judge_of d) (count_of list d) 0

-- ---- the result

-- "The result is the same layout"
unfoldable pub result_of : List ℕ → List ℕ → List ℕ
result_of list b = print_batch (map (entry_of list) (entries_of b))

abbrev pub sum : List ℕ → ℕ
sum [] = 0
sum (n ∷ ns) = n + sum ns

-- "Under 0 the third number is the sum over the entries"
unfoldable pub selected_in : List ℕ → List ℕ → ℕ
selected_in list b = sum (map (selected_of list) (entries_of b))

-- ---- the answer

-- a list at fault decides; a sound one leaves it to the batch
abbrev pub by_list : Result ⊤ ListError → Result Batch BatchError → Result Batch BatchError
by_list (Ok u) a = a
by_list (Err e) a = Err (errors.List e)

-- "after 1 to 3 comes 11": a layout at fault decides; a sound one leaves it to the room
abbrev pub by_layout : Result ⊤ LayoutError → Result Batch BatchError → Result Batch BatchError
by_layout (Ok _) a = a
by_layout (Err e) a = Err (errors.BadBatch e.at)

-- "then 9 with the length of the whole result": the result w, of c elements selected, in a buffer of `room` bytes
abbrev pub by_room : ℕ → List ℕ → ℕ → Result Batch BatchError
by_room room w c = cond (ltb room (length w)) (Err (errors.Short (length w))) (Ok (record { length = length w; selected = c }))

-- by a sound list, and by any
abbrev pub batch_by : List ℕ → List ℕ → ℕ → Result Batch BatchError
batch_by list b room = by_layout (layout_of b) (by_room room (result_of list b) (selected_in list b))

unfoldable pub batch_of : List ℕ → List ℕ → ℕ → Result Batch BatchError
batch_of list b room = by_list (list_answer list) (batch_by list b room)

-- ---- the buffer: "untouched when the batch as a whole is refused"; under 0 the bytes after the result stay

abbrev pub after : Result Batch BatchError → List ℕ → List ℕ → List ℕ
after (Ok b) w o = w ++ drop b.length o
after (Err e) w o = o

unfoldable pub batch_bytes_by : List ℕ → List ℕ → List ℕ → List ℕ
batch_bytes_by list b o = after (batch_by list b (length o)) (result_of list b) o

unfoldable pub batch_bytes : List ℕ → List ℕ → List ℕ → List ℕ
batch_bytes list b o = after (batch_of list b (length o)) (result_of list b) o

-- ---- the numbers: document 01's, and 11 for a batch

-- of a refusal; the line; "the offset of the version byte or length at fault"; "the length of the whole result"
abbrev pub batch_number : BatchError → ℕ
batch_number (errors.List e) = list_number e
batch_number (errors.BadBatch n) = 11
batch_number (errors.Short n) = 9

abbrev pub batch_second : BatchError → ℕ
batch_second (errors.List e) = list_second e
batch_second (errors.BadBatch n) = n
batch_second (errors.Short n) = n

abbrev pub number_of : Result Batch BatchError → ℕ
number_of (Ok b) = 0
number_of (Err e) = batch_number e

-- under 0 the length written
abbrev pub second_of : Result Batch BatchError → ℕ
second_of (Ok b) = b.length
second_of (Err e) = batch_second e

-- "Under 0 the third number is the sum over the entries", and 0 under every other
abbrev pub third_of : Result Batch BatchError → ℕ
third_of (Ok b) = b.selected
third_of (Err e) = 0
