-- `lay_line` meets its contract: CR, LF behind CR, and any other byte.
-- proofs/Laying.antt has the laws.
use Rattle.rows.proofs.Laying.{lay_kept, lay_skipped, lay_cr}
use Rattle.rows.proofs.said.lay_line.Goals as goal

pub returns-then-b-eq13 : goal.returns-then-b-eq13
returns-then-b-eq13 c =
    let s = c.args in
    let all = lay_cr s.after s.b c.if-b-eq13.true (c.lay.ensures.lays, c.lay.ensures.to_bound) in
    record {
      lays = all.0;
      to_bound = all.1;
    }

pub returns-then-after-b : goal.returns-then-after-b
returns-then-after-b c =
    let s = c.args in
    let all = lay_skipped s.after s.b c.if-b-eq13.false c.if-after-b.true in
    record {
      lays = all.0;
      to_bound = all.1;
    }

pub returns : goal.returns
returns c =
    let s = c.args in
    let all = lay_kept s.after s.b c.if-b-eq13.false c.if-after-b.false
    (c.lay-2.ensures.lays, c.lay-2.ensures.to_bound) in
    record {
      lays = all.0;
      to_bound = all.1;
    }
