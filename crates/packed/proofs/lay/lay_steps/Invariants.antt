-- `lay_steps` meets its contract. The invariant is `Stepped`: the steps up to a place are laid, and the others are read from there on.
-- The measure is what is left of the list.
use Prim.Native.Nat.{◌-◌}
use lib.ListN.{length}
use Rattle.packed.proofs.Laying.{Stepped}
use Rattle.packed.proofs.lay.lay_steps.Given as goal

abbrev pub invariant-loop-step : goal.invariant-loop-step
invariant-loop-step l = Stepped l.list l.at l.initial.out l.to l.count l.end l.place l.out

abbrev pub decreases-loop-step : goal.decreases-loop-step
decreases-loop-step l = length l.list - l.end
