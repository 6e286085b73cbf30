-- `lay_joint` meets its contract: a slash, but none before the first name.
-- proofs/Gathering.antt has the laws.
use Rattle.rows.proofs.Gathering.{joint_laid, joint_none}
use Rattle.rows.proofs.row.lay_joint.Goals as goal

pub returns-then-k-eq0 : goal.returns-then-k-eq0
returns-then-k-eq0 c =
    let all = joint_none c.if-k-eq0.true in
    record {
      wrote = all.0;
      upper_bound = all.1;
    }

pub returns : goal.returns
returns c =
    let all = joint_laid c.if-k-eq0.false c.put.ensures in
    record {
      wrote = all.0;
      upper_bound = all.1;
    }
