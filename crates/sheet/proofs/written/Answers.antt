-- `written` meets its contract: the pass that measured says what is answered, and the same pass into the buffer leaves the table there.
use Rattle.std.proofs.lemmas.Result.{err_from_is_err_and}
use Rattle.sheet.proofs.Answering.{both_by, written_fault, written_short, written_whole}
use Rattle.sheet.proofs.written.Goals as goal

pub returns-in_err-measured : goal.returns-in_err-measured
returns-in_err-measured c =
    let p = c.requires in
    let x = err_from_is_err_and c.from_residual.result c.from_residual.ensures.1 in
    let all = both_by _ _ _ (written_fault _ _ _ p.1 p.2 p.3 c.pass.ensures c.in_err-measured.was) in
    rw (x.1, x.2)
    (record {
      value = all.0;
      out_after = all.1;
    })

pub returns-then-out-length : goal.returns-then-out-length
returns-then-out-length c =
    let p = c.requires in
    let all = both_by _ _ _ (written_short _ _ _ p.1 p.2 p.3 c.pass.ensures c.in_ok-measured.was c.if-out-length.true) in
    record {
      value = all.0;
      out_after = all.1;
    }

pub returns : goal.returns
returns c =
    let p = c.requires in
    let all = both_by _ _ _ (written_whole _ _ _ p.1 p.2 p.3 c.pass.ensures c.in_ok-measured.was c.if-out-length.false c.pass-2.ensures) in
    record {
      value = all.0;
      out_after = all.1;
    }
