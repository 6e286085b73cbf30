-- Demand 2, of the answer: by a list that is accepted, the answer is not one of 4 to 8 and not 10, and so is 0 or 9, exactly when the
-- document has at most 16,777,216 bytes, is UTF-8 of Chars, and is derived by production [1] within the sizes; a declaration that [1] has
-- names no encoding but UTF-8.
use mathlib.Core.Path.{◌≡◌, refl}
use mathlib.Core.Bool.{Bool, true, false, cond}
use mathlib.Core.Logic.{◌↔◌, ◌⊎◌, inl, inr}
use mathlib.Core.List.{List}
use Prim.Native.Nat.{ℕ, ◌≤◌}
use native.Mathlib.Omega.{arith}
use lib.Dec.{ltb}
use lib.ListN.{length, drop}
use Rattle.std.specs.Prelude.{Result, Ok, Err, ⊤}
use Rattle.xml.specs.Forest.{Forest}
use Rattle.xml.specs.Document.{Small, Document}
use Rattle.paths.specs.Judge.{list_answer}
use Rattle.readers.specs.Meaning.{Chars}
use Rattle.document.specs.Judge.{start_of, judge_of}
use Rattle.document.specs.declared.Why.TheVariants as why
use Rattle.document.specs.declared.DocumentError.{DocumentError}
use Rattle.document.specs.declared.DocumentError.TheVariants.{TooLong, OtherEncoding, NotChar, At}
use Rattle.trees.specs.Written.{cut_of, count_of, tests_of}
use Rattle.cutter.specs.Answer.{by_document, by_room, answer_of, number_of}
use Rattle.cutter.specs.declared.answer.Cut.{Cut}
use Rattle.refusals.specs.declared.CutError.{CutError}
use Rattle.refusals.specs.declared.CutError.TheVariants as errors
use Rattle.demands.proofs.Accepted.{accepted}

-- written, or refused for its room alone
abbrev pub Taken : Result Cut CutError → Type 0
Taken a = (number_of a ≡ 0) ⊎ (number_of a ≡ 9)

room_taken : (room : ℕ) (w : List ℕ) (c t : ℕ) → Taken (by_room room w c t)
room_taken room w c t = go (ltb room (length w))
  where
    go : (b : Bool) → Taken (cond b (Err (errors.Short (length w))) (Ok (record { length = length w; selected = c; tests = t })))
    go true = inr refl
    go false = inl refl

judged_taken : (j : Result ⊤ DocumentError) (a : Result Cut CutError) → Taken (by_document j a) → j ≡ Ok tt
judged_taken (Ok _) a t = refl
judged_taken (Err TooLong) a (inl e) = absurd (omega arith)
judged_taken (Err TooLong) a (inr e) = absurd (omega arith)
judged_taken (Err (OtherEncoding o)) a (inl e) = absurd (omega arith)
judged_taken (Err (OtherEncoding o)) a (inr e) = absurd (omega arith)
judged_taken (Err (NotChar o)) a (inl e) = absurd (omega arith)
judged_taken (Err (NotChar o)) a (inr e) = absurd (omega arith)
judged_taken (Err (At why.Doctype o)) a (inl e) = absurd (omega arith)
judged_taken (Err (At why.Doctype o)) a (inr e) = absurd (omega arith)
judged_taken (Err (At why.Malformed o)) a (inl e) = absurd (omega arith)
judged_taken (Err (At why.Malformed o)) a (inr e) = absurd (omega arith)
judged_taken (Err (At why.TooLarge o)) a (inl e) = absurd (omega arith)
judged_taken (Err (At why.TooLarge o)) a (inr e) = absurd (omega arith)

module _ (list d : List ℕ) (room : ℕ) (listed : list_answer list ≡ Ok tt) where
  by_document_lem : answer_of list d room ≡ by_document (judge_of d) (by_room room (cut_of list d) (count_of list d) (tests_of list d))
  unfolding answer_of
  by_document_lem = rw listed refl

  pub taken_iff : Taken (answer_of list d room)
      ↔ ((length d ≤ 16777216) × Chars d × ((f : Forest) × Document Small (drop (start_of d) d) f))
  taken_iff = (
    (λ t. (accepted d).0 (judged_taken (judge_of d) (by_room room (cut_of list d) (count_of list d) (tests_of list d))
        (rw by_document_lem at t))),
    (λ x. rw (by_document_lem, (accepted d).1 x) (room_taken room (cut_of list d) (count_of list d) (tests_of list d))),
  )
