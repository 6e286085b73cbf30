-- `value_end` meets its contract. The loop's invariant: from at up to i there are characters of a value.
-- The measure is what is left of the list. proofs/Attributes.antt has the laws.
use Prim.Native.Nat.{◌-◌}
use lib.ListN.{length}
use Rattle.paths.specs.Path.{is_value}
use Rattle.chars.proofs.Runs.{Running}
use Rattle.paths.proofs.value_end.Given as goal

abbrev pub invariant-loop-i : goal.invariant-loop-i
invariant-loop-i l = Running is_value l.list l.at l.i

abbrev pub decreases-loop-i : goal.decreases-loop-i
decreases-loop-i l = length l.list - l.i
