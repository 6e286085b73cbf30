-- `sent_bits` meets its contract. The invariant: a run from here on gives what it gives from the line's front. The measure is what is left
-- of the list. proofs/Sent.antt has the laws.
use Prim.Native.Nat.{◌-◌}
use lib.ListN.{length}
use Rattle.covers.proofs.Sent.{Sending}
use Rattle.covers.proofs.sending.sent_bits.Given as goal

abbrev pub invariant-loop-step : goal.invariant-loop-step
invariant-loop-step l = Sending l.wide l.narrow l.at l.i l.state l.bits

abbrev pub decreases-loop-step : goal.decreases-loop-step
decreases-loop-step l = length l.narrow - l.i
