-- `mended` meets its contract. The invariant is `Keeping`: what is kept from the place on is what is kept of the document. The buffer stays
-- as it was until the loop is left. The measure is what is left of the document.
use mathlib.Core.Path.{◌≡◌}
use Prim.Native.Nat.{◌-◌, ◌≤◌}
use lib.ListN.{length}
use Rattle.mend.proofs.Keeping.{Keeping}
use Rattle.mend.proofs.kept.mended.Given as goal

abbrev pub invariant-loop-table : goal.invariant-loop-table
invariant-loop-table l =
    (length l.doc ≤ 16777216) × (l.out ≡ l.initial.out) × Keeping l.doc l.starts l.lens l.opened l.at l.first

abbrev pub decreases-loop-table : goal.decreases-loop-table
decreases-loop-table l = length l.doc - l.at
