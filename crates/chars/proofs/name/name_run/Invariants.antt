-- `name_run` meets its contract. The loop's invariant: from at up to i there are name characters, and i is no place past the end.
-- The measure is what is left of the slice.
use Prim.Native.Nat.{◌-◌}
use lib.ListN.{length}
use Rattle.chars.proofs.Names.{Passing}
use Rattle.chars.proofs.name.name_run.Given as goal

abbrev pub invariant-loop-i : goal.invariant-loop-i
invariant-loop-i l = Passing l.s l.at l.i

abbrev pub decreases-loop-i : goal.decreases-loop-i
decreases-loop-i l = length l.s - l.i
