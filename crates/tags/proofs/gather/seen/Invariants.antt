-- `seen` meets its contract. The loop's invariant: the name is one of those kept if it is one of those from k on.
use Rattle.tags.proofs.Kept.{Seeing}
use Rattle.tags.proofs.gather.seen.Given as goal

abbrev pub invariant-loop-k : goal.invariant-loop-k
invariant-loop-k l = Seeing l.doc l.starts l.lens l.count l.a l.n l.k
