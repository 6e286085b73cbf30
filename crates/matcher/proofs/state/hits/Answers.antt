-- `hits` meets its contract: the numbers fit,
-- and the sum's low 16 bits are enough.
use native.Mathlib.Omega.{arith}
use Rattle.matcher.proofs.Sums.{hits_wrap}
use Rattle.matcher.proofs.state.hits.Goals as goal

pub returns : goal.returns
returns c = hits_wrap c.args.state c.args.passes c.args.stays c.args.goes (omega arith)
