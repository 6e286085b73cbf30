-- `seek` meets its contract.
-- The loop's invariant: what is sought from i on is what was sought from the start on.
use Rattle.scans.proofs.Seeks.{Seeking}
use Rattle.scans.proofs.seek.seek.Given as goal

abbrev pub invariant-loop-i : goal.invariant-loop-i
invariant-loop-i l = Seeking l.s l.at l.text l.i
