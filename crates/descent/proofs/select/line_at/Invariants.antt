-- `line_at` meets its contract. The invariant: `can` are the places of the steps read so far. The measure is what is left of the list.
-- proofs/Lines.antt has the laws.
use Prim.Native.Nat.{◌-◌}
use lib.ListN.{length}
use Rattle.descent.proofs.Lines.{Walking}
use Rattle.descent.proofs.select.line_at.Given as goal

abbrev pub invariant-loop-found : goal.invariant-loop-found
invariant-loop-found l = Walking l.list l.doc l.starts l.lens l.level l.at l.i l.can

abbrev pub decreases-loop-found : goal.decreases-loop-found
decreases-loop-found l = length l.list - l.i
