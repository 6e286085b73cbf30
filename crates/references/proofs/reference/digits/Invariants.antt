-- `digits` meets its contract. The loop's invariant: the digits left, with the number so far, read as all of them do from the start.
use lib.ListN.{drop}
use Rattle.references.proofs.Numbers.{Numbering}
use Rattle.references.proofs.reference.digits.Given as goal

abbrev pub invariant-loop-k : goal.invariant-loop-k
invariant-loop-k l = Numbering (drop l.at l.doc) l.base l.k l.n
