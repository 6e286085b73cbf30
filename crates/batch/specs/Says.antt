-- What each answer on a batch says, in document 02's words and order: "after 1 to 3 comes 11 .. then 9 with the length of the whole
-- result". In order: an entry; the entries of all documents, with the sum; the result; the answers. The words on a list, a document and a
-- cut are those of the demands. proofs/Saying.antt shows that each call has the one answer that is said.
use Rattle.std.specs.Prelude.{◌≡◌, List, [], ◌∷◌, ℕ, ◌+◌, ◌≤◌, ◌<◌, length, Result, Ok, ⊤, Err}
use Rattle.paths.specs.Answer.{Says}
use Rattle.paths.specs.declared.ListError.TheVariants as lists
use Rattle.document.specs.declared.DocumentError.{DocumentError}
use Rattle.demands.specs.Judged.{DocumentSays}
use Rattle.demands.specs.Answers.{Cuts}
use Rattle.bundle.specs.Batch.{print_batch, fault_at}
use Rattle.bundle.specs.Layout.{LayoutSays}
use Rattle.batch.specs.declared.Batch.{Batch}
use Rattle.batch.specs.declared.BatchError.{BatchError}
use Rattle.batch.specs.declared.BatchError.TheVariants as errors

-- w is the entry of the document d, with c elements selected
pub data EntrySays (list d : List ℕ) : List ℕ → ℕ → Type 0 where
  -- "the cut of each document"
  cut : {w : List ℕ} {c t : ℕ} → Cuts list d w c t → EntrySays list d w c
  -- "or length 0 where that document is refused by 4 to 8 or 10"
  refused : (j : Result ⊤ DocumentError) → DocumentSays d j → (j ≡ Ok tt → ⊥) → EntrySays list d [] 0

-- an entry for each document, in their order; "the third number is the sum over the entries"
pub data EntriesSay (list : List ℕ) : List (List ℕ) → List (List ℕ) → ℕ → Type 0 where
  none : EntriesSay list [] [] 0
  more : {d w : List ℕ} {c : ℕ} {ds ws : List (List ℕ)} {n : ℕ} → EntrySays list d w c → EntriesSay list ds ws n
      → EntriesSay list (d ∷ ds) (w ∷ ws) (c + n)

-- w is the result of the batch b, with c elements selected: "the same layout"
pub record Results (list b w : List ℕ) (c : ℕ) : Type 0 where
  pub listed : Says list (Ok tt)
  pub documents : List (List ℕ)
  pub printed : b ≡ print_batch documents
  pub small : length b ≤ 67108864
  pub entries : List (List ℕ)
  pub each : EntriesSay list documents entries c
  pub result : w ≡ print_batch entries

pub data BatchSays (list b : List ℕ) (room : ℕ) : Result Batch BatchError → Type 0 where
  list_long : Says list (Err lists.TooLong) → BatchSays list b room (Err (errors.List lists.TooLong))
  list_malformed : {line : ℕ} → Says list (Err (lists.Malformed line)) → BatchSays list b room (Err (errors.List (lists.Malformed line)))
  list_large : {line : ℕ} → Says list (Err (lists.TooLarge line)) → BatchSays list b room (Err (errors.List (lists.TooLarge line)))
  bad_batch : {o : ℕ} → Says list (Ok tt) → LayoutSays b (fault_at o) → BatchSays list b room (Err (errors.BadBatch o))
  short : {w : List ℕ} {c : ℕ} → Results list b w c → room < length w → BatchSays list b room (Err (errors.Short (length w)))
  written : {w : List ℕ} {c : ℕ} → Results list b w c → length w ≤ room
      → BatchSays list b room (Ok (record { length = length w; selected = c }))
