-- `name_tail` meets its contract. The loop's invariant: from at up to i there are name characters.
-- The measure is what is left of the slice.
use Prim.Native.Nat.{◌-◌}
use lib.ListN.{length}
use Rattle.xml.specs.Productions.{is_name}
use Rattle.chars.proofs.Runs.{Running}
use Rattle.chars.proofs.name.name_tail.Given as goal

abbrev pub invariant-loop-i : goal.invariant-loop-i
invariant-loop-i l = Running is_name l.s l.at l.i

abbrev pub decreases-loop-i : goal.decreases-loop-i
decreases-loop-i l = length l.s - l.i
