-- `quoted` meets its contract: no quote, or the pieces after it and what stands there.
-- proofs/Pieces.antt has a law for each.
use Rattle.values.proofs.Pieces.{quoting}
use Rattle.values.proofs.value.quoted.Goals as goal

pub returns-in_err-i : goal.returns-in_err-i
returns-in_err-i c = rw c.from_residual.ensures (search (quoting, c.in_err-i.was))

pub pieces-k-requires : goal.pieces-k-requires
pieces-k-requires c = search (quoting, c.in_ok-i.was)

pub returns : goal.returns
returns c = search (quoting, c.in_ok-i.was)
