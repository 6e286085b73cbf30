-- `cut_all`, and the functions under it: one law for each way out, about the answer and about the buffer.
-- In order: a result that is filled in; one that is measured; the layout; the list.
use mathlib.Core.Path.{◌≡◌, refl, sym, ◌∙◌}
use mathlib.Core.List.{List, ◌++◌}
use Rattle.std.specs.Prelude.{Result, Ok}
use Prim.Native.Nat.{ℕ, ◌/◌, ◌≤◌, ◌<◌}
use native.Mathlib.Omega.{arith}
use borrow.Author.Tests.{lt-ltb, le-ltb}
use lib.ListN.{length, drop}
use Rattle.std.specs.Prelude.{Result, Ok, Err, ⊤}
use Rattle.paths.specs.Judge.{list_answer}
use Rattle.paths.specs.declared.ListError.{ListError}
use Rattle.bundle.specs.Batch.{fault_at, layout_of}
use Rattle.bundle.specs.declared.LayoutError.{LayoutError}
use Rattle.bundle.proofs.Judging.{sound_whole}
use Rattle.batch.specs.Answer.{result_of, selected_in, batch_by, batch_of, batch_bytes_by, batch_bytes}
use Rattle.batch.specs.Told.{part_of}
use Rattle.batch.specs.declared.entry.Part.{Part}
use Rattle.batch.specs.declared.Batch.{Batch}
use Rattle.batch.specs.declared.BatchError.{BatchError}
use Rattle.batch.specs.declared.BatchError.TheVariants as errors
use Rattle.batch.proofs.Bounds.{result_under}

module _ (list b o : List ℕ) where
  -- the two promises of a contract, by a sound list and by any
  abbrev pub SaidBy : Result Batch BatchError → List ℕ → Type 0
  SaidBy r o' = (r ≡ batch_by list b (length o)) × (o' ≡ batch_bytes_by list b o)

  abbrev pub Said : Result Batch BatchError → List ℕ → Type 0
  Said r o' = (r ≡ batch_of list b (length o)) × (o' ≡ batch_bytes list b o)

  module _ (e : layout_of b ≡ Ok tt) where
    pub filled_says : length (result_of list b) ≤ length o → {p : Part} {o' : List ℕ} → p ≡ part_of (result_of list b) (selected_in list b)
        → o' ≡ result_of list b ++ drop (length (result_of list b)) o → SaidBy (Ok (record { length = p.length; selected = p.selected })) o'
    unfolding batch_bytes_by
    filled_says l q h = rw (q, e, le-ltb (length o) (length (result_of list b)) l) (refl, h)

    -- a buffer of twice the batch's bytes has room
    pub twice_enough : length b ≤ length o / 2 → length (result_of list b) ≤ length o
    twice_enough l = omega (arith, result_under list b (sound_whole b e))

    module _ {n : ℕ} (q : n ≡ length (result_of list b)) where
      pub measured_enough : n ≤ length o → length (result_of list b) ≤ length o
      measured_enough l = omega (arith, q)

      pub short_says : length o < n → SaidBy (Err (errors.Short n)) o
      unfolding batch_bytes_by
      short_says l =
          let s : length o < length (result_of list b) = omega (arith, q) in
          rw (q, e, lt-ltb (length o) (length (result_of list b)) s) (refl, refl)

  pub fault_says : {x : Result ⊤ LayoutError} → x ≡ layout_of b → {k : ℕ} → x ≡ fault_at k → SaidBy (Err (errors.BadBatch k)) o
  unfolding batch_bytes_by
  fault_says e q = rw (sym e ∙ q) (refl, refl)

  -- ---- any list

  module _ {a : Result ⊤ ListError} (e : a ≡ list_answer list) where
    pub list_sound : a ≡ Ok tt → {r : Result Batch BatchError} {o' : List ℕ} → SaidBy r o' → Said r o'
    unfolding batch_of batch_bytes_by batch_bytes
    list_sound q h = rw (sym e ∙ q) h

    pub list_refused : {x : ListError} → a ≡ Err x → Said (Err (errors.List x)) o
    unfolding batch_of batch_bytes
    list_refused q = rw (sym e ∙ q) (refl, refl)
