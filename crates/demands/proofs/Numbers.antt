-- The numbers that the crates below give their answers are those of the cut: for a list at fault those of paths, for a document at fault
-- those of document, for a bad sequence, where no other encoding is named, those of chars. So no table of numbers stands beside document
-- 01's.
use mathlib.Core.Path.{◌≡◌, refl}
use mathlib.Core.Bool.{false}
use mathlib.Core.List.{List}
use Prim.Native.Nat.{ℕ, ◌≤◌}
use borrow.Author.Tests.{le-ltb}
use lib.ListN.{length, drop}
use Rattle.std.specs.Prelude.{Result, Ok, Err, ⊤}
use Rattle.chars.specs.Check.{check_of}
use Rattle.chars.specs.Meaning as check
use Rattle.chars.specs.declared.whole.CharError.{CharError}
use Rattle.paths.specs.Answer as list
use Rattle.paths.specs.Judge.{list_answer}
use Rattle.paths.specs.declared.ListError.{ListError}
use Rattle.document.specs.Judge as document
use Rattle.readers.specs.Named.{other_encoding}
use Rattle.document.specs.Judge.{start_of, by_chars, scanned, judge_of}
use Rattle.document.specs.declared.DocumentError.{DocumentError}
use Rattle.cutter.specs.Answer.{by_list, by_document, answer_of, number_of, second_of}
use Rattle.cutter.specs.declared.answer.Cut.{Cut}
use Rattle.refusals.specs.declared.CutError.{CutError}

-- the answer a has the number n and the second number s
abbrev pub Numbered : Result Cut CutError → ℕ → ℕ → Type 0
Numbered a n s = (number_of a ≡ n) × (second_of a ≡ s)

list_numbered : (l : Result ⊤ ListError) (a : Result Cut CutError) → (l ≡ Ok tt → ⊥)
    → Numbered (by_list l a) (list.number_of l) (list.second_of l)
list_numbered (Ok _) a n = absurd (n refl)
list_numbered (Err e) a n = (refl, refl)

document_numbered : (j : Result ⊤ DocumentError) (a : Result Cut CutError) → (j ≡ Ok tt → ⊥)
    → Numbered (by_document j a) (document.number_of j) (document.second_of j)
document_numbered (Ok _) a n = absurd (n refl)
document_numbered (Err e) a n = (refl, refl)

char_numbered : (c : Result Unit CharError) (j : Result ⊤ DocumentError) (a : Result Cut CutError) → (c ≡ Ok tt → ⊥)
    → Numbered (by_document (by_chars c j) a) (check.number_of c) (check.second_of c)
char_numbered (Ok tt) j a n = absurd (n refl)
char_numbered (Err o) j a n = (refl, refl)

module _ (l d : List ℕ) (room : ℕ) where
  pub list_numbers : (list_answer l ≡ Ok tt → ⊥)
      → Numbered (answer_of l d room) (list.number_of (list_answer l)) (list.second_of (list_answer l))
  unfolding answer_of
  list_numbers n = list_numbered (list_answer l) _ n

  pub document_numbers : list_answer l ≡ Ok tt → (judge_of d ≡ Ok tt → ⊥)
      → Numbered (answer_of l d room) (document.number_of (judge_of d)) (document.second_of (judge_of d))
  unfolding answer_of
  document_numbers e n = rw e (document_numbered (judge_of d) _ n)

  pub char_numbers : list_answer l ≡ Ok tt → length d ≤ 16777216 → other_encoding (drop (start_of d) d) ≡ false
      → (check_of d ≡ Ok tt → ⊥)
      → Numbered (answer_of l d room) (check.number_of (check_of d)) (check.second_of (check_of d))
  unfolding answer_of judge_of
  char_numbers e s o n = rw (e, le-ltb 16777216 (length d) s, o) (char_numbered (check_of d) (scanned d) _ n)
