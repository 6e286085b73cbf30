-- `some_stands` meets its contract. The invariant: none of the lines gone through stands for the narrow one.
-- proofs/Stood.antt has the laws.
use Rattle.covers.proofs.Stood.{Seeking}
use Rattle.covers.proofs.standing.some_stands.Given as goal

abbrev pub invariant-loop-b : goal.invariant-loop-b
invariant-loop-b l = Seeking l.narrow l.a l.wide l.lines l.sent l.left l.b-index
