-- Demand 1: "Every list, document and output buffer gets an answer. A bad list, a bad document or too little room is refused by a number
-- and a place, never left to the caller to check, and a refused call changes no byte of the output." And under 0 the bytes after the cut
-- stay.
use mathlib.Core.Path.{◌≡◌, refl}
use mathlib.Core.List.{List, ◌++◌}
use Prim.Native.Nat.{ℕ, ◌≤◌}
use native.Mathlib.Omega.{arith}
use lib.ListN.{length, drop}
use Rattle.std.specs.Prelude.{Result, Ok, Err}
use Rattle.cutter.specs.Answer.{answer_of, after, bytes_after, number_of, second_of, third_of, fourth_of}
use Rattle.cutter.specs.declared.answer.Cut.{Cut}
use Rattle.refusals.specs.declared.CutError.{CutError}
use Rattle.document.specs.declared.Why.TheVariants as why
use Rattle.document.specs.declared.DocumentError.TheVariants as judged
use Rattle.paths.specs.declared.ListError.TheVariants as lists
use Rattle.refusals.specs.declared.CutError.TheVariants as errors
use Rattle.trees.specs.Written.{cut_of}

-- every call has an answer, and one of eleven numbers, document 01's ten and 10; `cut` is a total function, so it has one in the code too
pub numbered : (list d : List ℕ) (room : ℕ) → number_of (answer_of list d room) ≤ 10
numbered list d room = eleven (answer_of list d room)
  where
    eleven : (a : Result Cut CutError) → number_of a ≤ 10
    eleven (Ok c) = omega arith
    eleven (Err (errors.List lists.TooLong)) = omega arith
    eleven (Err (errors.List (lists.Malformed n))) = omega arith
    eleven (Err (errors.List (lists.TooLarge n))) = omega arith
    eleven (Err (errors.Document judged.TooLong)) = omega arith
    eleven (Err (errors.Document (judged.OtherEncoding n))) = omega arith
    eleven (Err (errors.Document (judged.NotChar n))) = omega arith
    eleven (Err (errors.Document (judged.At why.Doctype n))) = omega arith
    eleven (Err (errors.Document (judged.At why.Malformed n))) = omega arith
    eleven (Err (errors.Document (judged.At why.TooLarge n))) = omega arith
    eleven (Err (errors.Short n)) = omega arith

-- "a refused call changes no byte of the output"
refused_keeps : (a : Result Cut CutError) (w o : List ℕ) → (number_of a ≡ 0 → ⊥) → after a w o ≡ o
refused_keeps (Ok c) w o h = absurd (h refl)
refused_keeps (Err e) w o h = refl

pub refused : (list d o : List ℕ) → (number_of (answer_of list d (length o)) ≡ 0 → ⊥) → bytes_after list d o ≡ o
unfolding bytes_after
refused list d o h = refused_keeps (answer_of list d (length o)) (cut_of list d) o h

-- "On 0 the bytes after the cut stay as they were"
written_front : (a : Result Cut CutError) (w o : List ℕ) → number_of a ≡ 0 → after a w o ≡ w ++ drop (second_of a) o
written_front (Ok c) w o h = refl
written_front (Err (errors.List lists.TooLong)) w o h = absurd (omega arith)
written_front (Err (errors.List (lists.Malformed n))) w o h = absurd (omega arith)
written_front (Err (errors.List (lists.TooLarge n))) w o h = absurd (omega arith)
written_front (Err (errors.Document judged.TooLong)) w o h = absurd (omega arith)
written_front (Err (errors.Document (judged.OtherEncoding n))) w o h = absurd (omega arith)
written_front (Err (errors.Document (judged.NotChar n))) w o h = absurd (omega arith)
written_front (Err (errors.Document (judged.At why.Doctype n))) w o h = absurd (omega arith)
written_front (Err (errors.Document (judged.At why.Malformed n))) w o h = absurd (omega arith)
written_front (Err (errors.Document (judged.At why.TooLarge n))) w o h = absurd (omega arith)
written_front (Err (errors.Short n)) w o h = absurd (omega arith)

pub written : (list d o : List ℕ) → number_of (answer_of list d (length o)) ≡ 0
    → bytes_after list d o ≡ cut_of list d ++ drop (second_of (answer_of list d (length o))) o
unfolding bytes_after
written list d o h = written_front (answer_of list d (length o)) (cut_of list d) o h

-- "The third number is 0 except under 0"
pub third : (a : Result Cut CutError) → (number_of a ≡ 0 → ⊥) → third_of a ≡ 0
third (Ok c) h = absurd (h refl)
third (Err e) h = refl

-- and the fourth "is 0 under every number but 0"
pub fourth : (a : Result Cut CutError) → (number_of a ≡ 0 → ⊥) → fourth_of a ≡ 0
fourth (Ok c) h = absurd (h refl)
fourth (Err e) h = refl
