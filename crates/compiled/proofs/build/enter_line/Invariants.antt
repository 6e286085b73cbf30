-- `enter_line` meets its contract. The invariant: the tables are those of the paths before and of the steps read of this path; `bit` is the
-- next step's bit, and the sums have the bits of those that may stay, go, go far. The measure is what is left of the list.
-- proofs/InLine.antt has the laws.
use Prim.Native.Nat.{◌-◌}
use lib.ListN.{length}
use Rattle.compiled.proofs.InLine.{InLine}
use Rattle.compiled.proofs.build.enter_line.Given as goal

abbrev pub invariant-steps : goal.invariant-steps
invariant-steps l =
    InLine l.list l.at l.len l.head l.next l.rows l.count l.p l.place l.bit l.stays l.goes l.far

abbrev pub decreases-steps : goal.decreases-steps
decreases-steps l =
    length l.list - l.place
