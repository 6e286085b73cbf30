-- `spread` meets its contract. The loop's invariant: entries before i have the sum, and those from i on are as they were.
use Rattle.compiled.proofs.Spreading.{Spreading}
use Rattle.compiled.proofs.rows.spread.Given as goal

abbrev pub invariant-loop-i : goal.invariant-loop-i
invariant-loop-i l = Spreading l.initial.rows l.rows l.i
