-- `open_chain` meets its contract. The invariant: the start tags of the levels after lo up to k are laid.
-- proofs/Inking.antt has the laws.
use Rattle.descent.proofs.Inking.{Chained}
use Rattle.descent.proofs.ink.open_chain.Given as goal

abbrev pub invariant-loop-k : goal.invariant-loop-k
invariant-loop-k l =
    Chained l.doc l.starts l.lens l.initial.out l.len-2 l.lo l.hi l.k l.len l.out
