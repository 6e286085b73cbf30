-- `pass` meets its contract. The invariant is `Passing`: the code's state stands for an engine from which the rest of the pass comes to
-- what it comes to from the start, and the scan does too; what is kept of elements is known of them. Each need is handed its law of
-- proofs/Passing.antt.
use Prim.Native.Nat.{◌-◌}
use lib.ListN.{length}
use Rattle.passes.proofs.Passing.{Passing}
use Rattle.passes.proofs.pass.Given as goal

abbrev pub invariant-loop-why : goal.invariant-loop-why
invariant-loop-why l =
    Passing l.counts l.list l.t l.doc l.initial.out l.initial.log l.states l.memo l.slots l.starts l.lens l.opened l.run l.at l.first
    l.tests l.out l.log

abbrev pub decreases-loop-why : goal.decreases-loop-why
decreases-loop-why l =
    length l.doc - l.at
