-- `lay` meets its contract: a quote twice in a quoted field, any other byte once.
-- proofs/Laying.antt has the laws.
use Rattle.rows.proofs.Laying.{lay_twice, lay_once}
use Rattle.rows.proofs.field.lay.Goals as goal

pub returns-then-quoted-b : goal.returns-then-quoted-b
returns-then-quoted-b c =
    let all = lay_twice c.is_special-special.ensures
    c.if-quoted-b.true
    c.put-first.ensures c.put-both.ensures in
    record {
      lays = all.0;
      to_bound = all.1;
    }

pub returns : goal.returns
returns c =
    let all = lay_once c.is_special-special.ensures c.if-quoted-b.false
    c.put-one.ensures in
    record {
      lays = all.0;
      to_bound = all.1;
    }
