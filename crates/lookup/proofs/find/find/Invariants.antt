-- `find` meets its contract. The loop's invariant: whatever names the tables are of, the chain from k on goes to the place of the name.
-- The measure is k: a link goes down.
use Rattle.lookup.proofs.Search.{Finding}
use Rattle.lookup.proofs.find.find.Given as goal

abbrev pub invariant-loop-k : goal.invariant-loop-k
invariant-loop-k l = Finding l.list l.at l.len l.head l.next l.name l.k

abbrev pub decreases-loop-k : goal.decreases-loop-k
decreases-loop-k l = l.k
