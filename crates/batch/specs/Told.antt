-- What the walks over a batch carry: what a document's answer says of its entry, and how long a text is and how many elements are selected
-- in it. An answer that refuses the document says 0 and 0; where there was no room it still says the length.
use Rattle.std.specs.Prelude.{List, ℕ, length, Result, Ok, Err}
use Rattle.cutter.specs.declared.answer.Cut.{Cut}
use Rattle.refusals.specs.declared.CutError.{CutError}
use Rattle.refusals.specs.declared.CutError.TheVariants as errors
use Rattle.batch.specs.declared.entry.Part.{Part}

abbrev pub part : ℕ → ℕ → Part
part n c = record { length = n; selected = c }

abbrev pub told_of : Result Cut CutError → Part
told_of (Ok c) = part c.length c.selected
told_of (Err (errors.List e)) = part 0 0
told_of (Err (errors.Document e)) = part 0 0
told_of (Err (errors.Short n)) = part n 0

-- of a text with so many elements selected
abbrev pub part_of : List ℕ → ℕ → Part
part_of w c = part (length w) c
