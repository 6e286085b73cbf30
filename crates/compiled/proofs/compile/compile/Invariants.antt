-- `compile` meets its contract. The invariant: the tables are those of the paths whose lines are read, and the rows stand in their place
-- in `t`. The measure is what is left of the list. proofs/OverLines.antt has the laws, and proofs/Laid.antt those of the tables laid one
-- behind the other.
use Prim.Native.Nat.{◌-◌}
use lib.ListN.{length}
use Rattle.compiled.proofs.OverLines.{Lining}
use Rattle.compiled.proofs.compile.compile.Given as goal

abbrev pub invariant-loop-place : goal.invariant-loop-place
invariant-loop-place l =
    Lining l.list l.at l.len l.head l.next l.t l.stays l.goes l.far l.lasts l.marks l.tests l.names l.p l.place

abbrev pub decreases-loop-place : goal.decreases-loop-place
decreases-loop-place l =
    length l.list - l.place
