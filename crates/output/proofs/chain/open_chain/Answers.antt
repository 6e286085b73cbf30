-- `open_chain` meets its contract.
-- The invariant is `Chaining`: the start tags of the levels after lo up to k are written.
use Rattle.output.proofs.Chains.{chain_step}
use Rattle.output.proofs.chain.open_chain.Goals as goal

pub loop-k-preserved : goal.loop-k-preserved
loop-k-preserved c = search chain_step
