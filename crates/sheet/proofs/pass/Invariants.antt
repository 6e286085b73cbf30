-- `pass` meets its contract. The invariant is `Walking`: the records laid so far and those of what is left are the records of the document,
-- and so are the elements counted. Each goal is handed its law of proofs/Walking.antt.
use Prim.Native.Nat.{◌-◌}
use lib.ListN.{length}
use Rattle.sheet.proofs.Walking.{Walking}
use Rattle.sheet.proofs.pass.Given as goal

abbrev pub invariant-loop-why : goal.invariant-loop-why
invariant-loop-why l =
    Walking l.list l.t l.doc l.initial.out l.header l.states l.memo l.slots l.starts l.lens l.opened l.run l.at l.first l.out

abbrev pub decreases-loop-why : goal.decreases-loop-why
decreases-loop-why l =
    length l.doc - l.at
