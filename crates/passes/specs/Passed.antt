-- What a pass over the items comes to: what the scan of the document says; and where that is no fault, the cut's length, the numbers of
-- elements selected and of name tests tried, the cut laid into the buffer as far as it reaches, and notes that stand for the cut, unless
-- some were left out. After a fault nothing is said of the buffer and of the log.
use Rattle.std.specs.Prelude.{◌≡◌, Bool, true, cond, List, ℕ, length, Result, Ok, Err, ⊤}
use Rattle.std.proofs.lemmas.List.Edits.{sets}
use Rattle.document.specs.Judge.{scanned}
use Rattle.document.specs.declared.ItemError.{ItemError}
use Rattle.document.specs.declared.DocumentError.{DocumentError}
use Rattle.document.specs.declared.DocumentError.TheVariants.{At}
use Rattle.notes.specs.Notes.{Stood}
use Rattle.trees.specs.Written.{cut_of, count_of, tests_of}
use Rattle.passes.specs.declared.Measured.{Measured}

abbrev pub judged_by : Result Measured ItemError → Result ⊤ DocumentError
judged_by (Ok m) = Ok tt
judged_by (Err e) = Err (At e.why e.at)

-- of the document d: its cut w, the numbers k and t, the buffer o₀ before; o and g are the buffer and the log after
abbrev pub Told : List ℕ → List ℕ → ℕ → ℕ → List ℕ → Result Measured ItemError → List ℕ → List ℕ → Type 0
Told d w k t o₀ (Ok m) o g =
    (m.length ≡ length w) × (m.selected ≡ k) × (m.tests ≡ t) × (o ≡ sets o₀ 0 w) × Stood d g m.noted w
Told d w k t o₀ (Err e) o g = Unit {0}

-- where name tests are counted, and where not: then their number is 0
pub record PassedBy (counts : Bool) (list d o₀ : List ℕ) (r : Result Measured ItemError) (o g : List ℕ) : Type 0 where
  pub judged : judged_by r ≡ scanned d
  pub told : Told d (cut_of list d) (count_of list d) (cond counts (tests_of list d) 0) o₀ r o g

abbrev pub Passed : List ℕ → List ℕ → List ℕ → Result Measured ItemError → List ℕ → List ℕ → Type 0
Passed = PassedBy true
