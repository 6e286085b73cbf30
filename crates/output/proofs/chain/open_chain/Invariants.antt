-- `open_chain` meets its contract.
-- The invariant is `Chaining`: the start tags of the levels after lo up to k are written.
use Rattle.output.proofs.Chains.{Chaining}
use Rattle.output.proofs.chain.open_chain.Given as goal

abbrev pub invariant-loop-k : goal.invariant-loop-k
invariant-loop-k l = Chaining l.doc l.starts l.lens l.initial.out l.initial.log l.len-2
    l.noted-2 l.lo l.hi l.k l.len l.noted l.out l.log
