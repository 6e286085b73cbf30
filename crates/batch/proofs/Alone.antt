-- Document 02, Q-2: "Each entry must equal what a single call with room enough gives." One document of a batch, beside a call of `cut` for
-- it alone, `entry_alone`; an empty document, which is refused; and the same entry of a result, `entry_at`.
use mathlib.Core.Path.{◌≡◌, refl, sym, ap, ◌∙◌}
use mathlib.Core.List.{List, [], ◌∷◌, ◌++◌, map}
use mathlib.Core.Logic.{◌⊎◌, inl, inr}
use Rattle.std.specs.Prelude.{Ok}
use Prim.Native.Nat.{ℕ, ◌≤◌}
use native.Mathlib.Omega.{arith}
use borrow.Author.Tests.{le-ltb}
use lib.ListN.{length, get_or, drop, get_or-map}
use Rattle.std.specs.Prelude.{Result, Ok, Err, ⊤}
use Rattle.xml.specs.Document.{Small}
use Rattle.paths.specs.Judge.{list_answer, list_paths}
use Rattle.document.specs.Judge.{judge_of}
use Rattle.document.specs.declared.Why.TheVariants as why
use Rattle.document.specs.declared.DocumentError.{DocumentError}
use Rattle.document.specs.declared.DocumentError.TheVariants as judged
use Rattle.trees.specs.Written.{verdicts, cut_of, count_of, tests_of}
use Rattle.cutter.specs.Answer.{by_document, by_room, answer_of, after, bytes_after, number_of, second_of, third_of}
use Rattle.cutter.specs.declared.answer.Cut.{Cut}
use Rattle.refusals.specs.declared.CutError.{CutError}
use Rattle.demands.proofs.First.{sound_document}
use Rattle.demands.proofs.Recut.{cut_front, small_less}
use Rattle.bundle.specs.Batch.{entries_of, layout_of}
use Rattle.bundle.proofs.Judging.{sound_whole}
use Rattle.bundle.proofs.Layouts.{batch_printed}
use Rattle.batch.specs.Answer.{of_sound, entry_of, selected_of, result_of}
use Rattle.batch.proofs.Bounds.{entry_under, result_under}

-- "where that document is refused by 4 to 8 or 10"
abbrev pub OfDocument : ℕ → Type 0
OfDocument n = ((4 ≤ n) × (n ≤ 8)) ⊎ (n ≡ 10)

-- a is what a call of `cut` for the document alone answers, into the buffer o, and o' what it leaves there; w is the document's entry, of c
-- elements selected
pub record Alone (a : Result Cut CutError) (o o' w : List ℕ) (c : ℕ) : Type 0 where
  -- the call leaves the entry at the front of its buffer
  pub bytes : o' ≡ w ++ drop (length w) o
  pub third : third_of a ≡ c
  -- the document is cut: the entry is as long as the call says, and "a cut is never empty"
  pub taken : number_of a ≡ 0 → (second_of a ≡ length w) × (1 ≤ length w)
  -- or refused: by 4 to 8 or 10, and the entry is empty
  pub refused : (number_of a ≡ 0 → ⊥) → (w ≡ []) × OfDocument (number_of a)

-- a document that is refused
refusing : {a : Result Cut CutError} {o : List ℕ} → third_of a ≡ 0 → (number_of a ≡ 0 → ⊥) → OfDocument (number_of a) → Alone a o o [] 0
refusing t n k = record { bytes = refl; third = t; taken = λ z. absurd (n z); refused = λ h. (refl, k) }

module _ (list d o : List ℕ) (listed : list_answer list ≡ Ok tt) where
  cut_some : judge_of d ≡ Ok tt → 1 ≤ length (cut_of list d)
  unfolding cut_of
  cut_some e =
      let (w, q) = cut_front Small small_less (verdicts (list_paths list)) (sound_document d e).2 in
      omega (arith, ap length q)

  pub entry_alone : length (entry_of list d) ≤ length o
      → Alone (answer_of list d (length o)) o (bytes_after list d o) (entry_of list d) (selected_of list d)
  unfolding answer_of bytes_after entry_of selected_of
  entry_alone room = rw listed (go (judge_of d) refl room)
    where
      go : (j : Result ⊤ DocumentError) → judge_of d ≡ j → length (of_sound j (cut_of list d) []) ≤ length o
          → Alone (by_document j (by_room (length o) (cut_of list d) (count_of list d) (tests_of list d))) o
          (after (by_document j (by_room (length o) (cut_of list d) (count_of list d) (tests_of list d))) (cut_of list d) o)
          (of_sound j (cut_of list d) []) (of_sound j (count_of list d) 0)
      go (Ok _) e l =
          rw (le-ltb (length o) (length (cut_of list d)) l)
          (record { bytes = refl; third = refl; taken = λ z. (refl, cut_some e); refused = λ h. absurd (h refl) })
      go (Err judged.TooLong) e l = refusing refl (λ z. omega (arith, z)) (inl (omega arith, omega arith))
      go (Err (judged.OtherEncoding k)) e l = refusing refl (λ z. omega (arith, z)) (inr refl)
      go (Err (judged.NotChar k)) e l = refusing refl (λ z. omega (arith, z)) (inl (omega arith, omega arith))
      go (Err (judged.At why.Doctype k)) e l = refusing refl (λ z. omega (arith, z)) (inl (omega arith, omega arith))
      go (Err (judged.At why.Malformed k)) e l = refusing refl (λ z. omega (arith, z)) (inl (omega arith, omega arith))
      go (Err (judged.At why.TooLarge k)) e l = refusing refl (λ z. omega (arith, z)) (inl (omega arith, omega arith))

-- a document of no bytes has an empty entry, since that is shorter than twice the document
length_none : (s : List ℕ) → length s ≤ 0 → s ≡ []
length_none [] l = refl
length_none (x ∷ s) l = absurd (omega arith)

pub empty_entry : (list : List ℕ) → entry_of list [] ≡ []
empty_entry list = length_none (entry_of list []) (omega (arith, entry_under list []))

-- ---- entries of a result

module _ (list b : List ℕ) (e : layout_of b ≡ Ok tt) where
  -- "The result is the same layout, with the cut of each document": as many entries, in the same order
  pub entries_result : entries_of (result_of list b) ≡ map (entry_of list) (entries_of b)
  unfolding result_of
  entries_result =
      let w = sound_whole b e in
      batch_printed (map (entry_of list) (entries_of b)) (omega (arith, result_under list b w, w.small))

  -- entry i is that of document i
  pub entry_at : (i : ℕ) → get_or (entries_of (result_of list b)) i [] ≡ entry_of list (get_or (entries_of b) i [])
  entry_at i =
      ap (λ (ds : List (List ℕ)). get_or ds i []) entries_result
      ∙ ap (λ (z : List ℕ). get_or (map (entry_of list) (entries_of b)) i z) (sym (empty_entry list))
      ∙ get_or-map (entry_of list) (entries_of b) i []
