-- `steps_at` meets its contract. The invariant: what is known of the steps read, with those left, is what holds of all. The measure is what
-- is left of the list. proofs/Lines.antt has the laws.
use Prim.Native.Nat.{◌-◌}
use lib.ListN.{length}
use Rattle.covers.proofs.Lines.{Walking}
use Rattle.covers.proofs.line.steps_at.Given as goal

abbrev pub invariant-loop-step : goal.invariant-loop-step
invariant-loop-step l = Walking l.list l.at l.i l.plain

abbrev pub decreases-loop-step : goal.decreases-loop-step
decreases-loop-step l = length l.list - l.i
