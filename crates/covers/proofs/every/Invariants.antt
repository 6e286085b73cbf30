-- `every` meets its contract. The invariant: the narrow lines read are covered, so what is left is covered just if all are. The measure is
-- what is left of the narrow list. proofs/Going.antt has the laws.
use Prim.Native.Nat.{◌-◌}
use lib.ListN.{length}
use Rattle.covers.proofs.Going.{Going}
use Rattle.covers.proofs.every.Given as goal

abbrev pub invariant-loop-at : goal.invariant-loop-at
invariant-loop-at l = Going l.narrow l.wide l.at

abbrev pub decreases-loop-at : goal.decreases-loop-at
decreases-loop-at l = length l.narrow - l.at
