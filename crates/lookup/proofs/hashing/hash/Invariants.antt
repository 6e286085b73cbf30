-- `hash` meets its contract. The loop's invariant: from h on, what is left of the name makes the number of the whole name.
use Rattle.lookup.proofs.Search.{Hashing}
use Rattle.lookup.proofs.hashing.hash.Given as goal

abbrev pub invariant-loop-b : goal.invariant-loop-b
invariant-loop-b l = Hashing l.name l.h l.b-index
