-- `lines_of` meets its contract. The invariant: the first lines are those of the paths read. The measure is what is left of the list.
-- proofs/Lines.antt has the laws.
use Prim.Native.Nat.{◌-◌}
use lib.ListN.{length}
use Rattle.covers.proofs.Lines.{Lining}
use Rattle.covers.proofs.line.lines_of.Given as goal

abbrev pub invariant-loop-at : goal.invariant-loop-at
invariant-loop-at l = Lining l.list l.all l.count l.at

abbrev pub decreases-loop-at : goal.decreases-loop-at
decreases-loop-at l = length l.list - l.at
