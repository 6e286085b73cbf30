-- `lay_two` meets its contract: one byte behind another.
-- proofs/Laying.antt has the law.
use Rattle.rows.proofs.Laying.{lays_two}
use Rattle.rows.proofs.said.lay_two.Goals as goal

pub returns : goal.returns
returns c =
    let all = lays_two (c.lay-first.ensures.lays, c.lay-first.ensures.to_bound)
    (c.lay-second.ensures.lays, c.lay-second.ensures.to_bound) in
    record {
      lays = all.0;
      to_bound = all.1;
    }
