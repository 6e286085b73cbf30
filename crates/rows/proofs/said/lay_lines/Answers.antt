-- `lay_lines` meets its contract. The invariant is `Lined`: the bytes so far are laid.
-- proofs/Laying.antt has the laws.
use Rattle.rows.proofs.Laying.{lined_over, lining}
use Rattle.rows.proofs.said.lay_lines.Goals as goal

pub loop-b-init : goal.loop-b-init
loop-b-init c = search lining

pub loop-b-preserved : goal.loop-b-preserved
loop-b-preserved c = search lining

pub returns-clause-lays : goal.returns-clause-lays
returns-clause-lays c = (lined_over c.loop-b.invariant c.loop-b-test.false).0
