-- `lay_record` meets its contract: a path, a comma, a field, which is empty for an empty tag, and a line end.
-- proofs/Rowing.antt has the laws.
use Rattle.rows.proofs.Rowing.{record_bare, record_full}
use Rattle.rows.proofs.row.lay_record.Goals as goal

pub returns-then-empty : goal.returns-then-empty
returns-then-empty c =
    let put = c.put-b in
    let path = c.lay_path-a in
    let all = record_bare c.requires.2 (path.ensures.wrote, path.ensures.upper_bound) put.ensures c.args.end c.if-empty.true
    c.lay_end.ensures in
    record {
      wrote = all.0;
      upper_bound = all.1;
    }

pub returns : goal.returns
returns c =
    let field = c.lay_field-c in
    let put = c.put-b in
    let path = c.lay_path-a in
    let all = record_full c.requires.2 (path.ensures.wrote, path.ensures.upper_bound) put.ensures c.args.end
    c.if-empty.false (field.ensures.wrote, field.ensures.upper_bound)
    c.lay_end-2.ensures in
    record {
      wrote = all.0;
      upper_bound = all.1;
    }
