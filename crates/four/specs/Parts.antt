-- One client's part in a call. In order: the document before its items are read; the list; what the client is answered. Only functions
-- inside the crate cite these.
use Rattle.std.specs.Prelude.{◌≡◌, Bool, true, false, List, ℕ, ◌≤◌, length, drop, Result, Ok, Err, ⊤}
use Rattle.std.proofs.lemmas.List.Edits.{sets}
use Rattle.chars.specs.Check.{check_of}
use Rattle.readers.specs.Named.{other_encoding}
use Rattle.paths.specs.Judge.{list_answer, list_paths}
use Rattle.paths.specs.declared.ListError.{ListError}
use Rattle.document.specs.Judge.{start_of, scanned}
use Rattle.document.specs.declared.ItemError.{ItemError}
use Rattle.document.specs.declared.DocumentError.{DocumentError}
use Rattle.compiled.specs.Compiled.{tables_of}
use Rattle.notes.specs.Notes.{Within}
use Rattle.trees.specs.Written.{cut_of}
use Rattle.passes.specs.Passed.{Passed}
use Rattle.passes.specs.declared.Measured.{Measured}
use Rattle.cutter.specs.Answer.{answer_by, bytes_by, answer_of, bytes_after}
use Rattle.cutter.specs.declared.answer.Cut.{Cut}
use Rattle.refusals.specs.declared.CutError.{CutError}
use Rattle.refusals.specs.declared.CutError.TheVariants as errors
use Rattle.four.specs.declared.parts.Served.{Served}

-- ---- the document before its items are read

-- of characters, in UTF-8, and not too long
pub record Readable (d : List ℕ) : Type 0 where
  pub small : length d ≤ 16777216
  pub utf8 : other_encoding (drop (start_of d) d) ≡ false
  pub chars : check_of d ≡ Ok tt

-- refused, by whatever sound list, and no byte of a buffer changes
abbrev pub Headed : List ℕ → Result ⊤ DocumentError → Type 0
Headed d (Ok u) = Readable d
Headed d (Err e) = (list o : List ℕ) → (Err (errors.Document e) ≡ answer_by list d (length o)) × (o ≡ bytes_by list d o)

-- ---- the list

-- what is said of it, and the tables made of it; and a log that is not too long
pub record Listed (list : List ℕ) (a : Result ⊤ ListError) (t g : List ℕ) : Type 0 where
  pub said : a ≡ list_answer list
  pub tables : t ≡ tables_of (list_paths list)
  pub small : length g ≤ 16777216

-- ---- the answer

abbrev pub soundness : Result ⊤ ListError → Bool
soundness (Ok u) = true
soundness (Err e) = false

-- unless some were left out, the notes are inside the document
abbrev pub Inside : List ℕ → List ℕ → Result Measured ItemError → Type 0
Inside d g (Ok m) = m.noted ≤ length g → Within d g m.noted
Inside d g (Err e) = Unit {0}

-- The answer is a, as it is to be. The buffer was o and is o': it is b, as it is to be; or the cut of a sound document is left to be laid,
-- which will make it so.
pub record Serving (a : Result Cut CutError) (b list d o : List ℕ) (r : Served) (o' : List ℕ) : Type 0 where
  pub answer : r.answer ≡ a
  pub done : r.left ≡ false → o' ≡ b
  pub waits : r.left ≡ true → (o' ≡ o) × (scanned d ≡ Ok tt) × (sets o 0 (cut_of list d) ≡ b)

-- by a sound list, and by any, for which the pass that measured came to m
abbrev pub ServedBy : List ℕ → List ℕ → List ℕ → Result Measured ItemError → Served → List ℕ → Type 0
ServedBy d o g m r o' =
    (list s s' : List ℕ) → Readable d → Passed list d s m s' g → Serving (answer_by list d (length o)) (bytes_by list d o) list d o r o'

pub record ServedOf (d o g : List ℕ) (a : Result ⊤ ListError) (m : Result Measured ItemError) (r : Served) (o' : List ℕ) : Type 0 where
  pub serving : (list s s' : List ℕ) → Readable d → a ≡ list_answer list → (soundness a ≡ true → Passed list d s m s' g)
      → Serving (answer_of list d (length o)) (bytes_after list d o) list d o r o'
  pub live : r.left ≡ true → soundness a ≡ true
