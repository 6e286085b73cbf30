-- `scan` meets its contract. The loop's invariant: the scan from the place on, with what is open there, is the scan from the start.
-- The measure is what is left of the document.
use Prim.Native.Nat.{◌-◌}
use lib.ListN.{length}
use Rattle.document.proofs.Judging.{Judging}
use Rattle.document.proofs.judge.scan.Given as goal

abbrev pub invariant-loop-starts : goal.invariant-loop-starts
invariant-loop-starts l = Judging l.doc l.starts l.lens l.opened l.at l.first

abbrev pub decreases-loop-starts : goal.decreases-loop-starts
decreases-loop-starts l = length l.doc - l.at
