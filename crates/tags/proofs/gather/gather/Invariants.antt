-- `gather` meets its contract. The loop's invariant: the names so far and those gathered from i on are those gathered from `at` on, and the
-- first 32 are kept by their places. The measure is what is left of the document.
use Prim.Native.Nat.{◌-◌}
use lib.ListN.{length}
use Rattle.tags.proofs.Gathers.{Gathering}
use Rattle.tags.proofs.gather.gather.Given as goal

abbrev pub invariant-loop-name : goal.invariant-loop-name
invariant-loop-name l = Gathering l.doc l.at l.i l.count l.small l.twice l.starts l.lens

abbrev pub decreases-loop-name : goal.decreases-loop-name
decreases-loop-name l = length l.doc - l.i
