-- What a pass over the items comes to: what the scan of the document says; and where that is no fault, the table's length, the number of
-- elements selected, and the table laid into the buffer as far as it reaches. After a fault nothing is said of the buffer. Before that what
-- a start tag comes to.
use Rattle.std.specs.Prelude.{◌≡◌, List, ℕ, ◌+◌, ◌≤◌, length, Result, Ok, Err, ⊤}
use Rattle.std.proofs.lemmas.List.Edits.{sets}
use Rattle.xml.specs.Forest.{Name}
use Rattle.document.specs.Judge.{scanned}
use Rattle.document.specs.declared.ItemError.{ItemError}
use Rattle.document.specs.declared.DocumentError.{DocumentError}
use Rattle.document.specs.declared.DocumentError.TheVariants.{At}
use Rattle.matcher.specs.declared.Verdict.{Verdict}
use Rattle.writer.specs.Wrote.{Wrote}
use Rattle.trees.specs.Cut.{one}
use Rattle.trees.specs.Written.{count_of}
use Rattle.rows.specs.Table.{record_by, table_of}
use Rattle.sheet.specs.declared.Run.{Run}
use Rattle.sheet.specs.declared.Table.{Table}

-- The element of these names, the innermost first, and of the text s: by its verdict w its record is laid behind what is laid so far, and
-- it is counted. A record has at most 2^28 bytes.
pub record Started (w : Verdict) (up : List Name) (s o : List ℕ) (run r : Run) (o' : List ℕ) : Type 0 where
  pub wrote : Wrote o run.to (record_by w up s) r.to o'
  pub near : r.to ≤ run.to + 268435456
  pub num : r.count ≡ run.count + one w

abbrev pub judged_by : Result Table ItemError → Result ⊤ DocumentError
judged_by (Ok m) = Ok tt
judged_by (Err e) = Err (At e.why e.at)

-- its table w, the number k of elements selected, the buffer o₀ before; o is the buffer after
abbrev pub Told : List ℕ → ℕ → List ℕ → Result Table ItemError → List ℕ → Type 0
Told w k o₀ (Ok m) o = (m.length ≡ length w) × (m.selected ≡ k) × (o ≡ sets o₀ 0 w)
Told w k o₀ (Err e) o = Unit {0}

pub record Passed (list d o₀ : List ℕ) (r : Result Table ItemError) (o : List ℕ) : Type 0 where
  pub judged : judged_by r ≡ scanned d
  pub told : Told (table_of list d) (count_of list d) o₀ r o
