-- `written` meets its contract: the first time through the document measures, the second writes.
-- proofs/Answering.antt has the laws.
use Rattle.std.proofs.lemmas.Result.{err_from_is_err_and}
use Rattle.descent.proofs.Answering.{plain_fault, plain_short, plain_whole}
use Rattle.descent.proofs.written.Goals as goal

pub returns-in_err-measured : goal.returns-in_err-measured
returns-in_err-measured c =
    let p = c.requires in
    let x = err_from_is_err_and c.from_residual.result c.from_residual.ensures.1 in
    let all = plain_fault _ _ _ p.1 p.2 p.3 _ _ _ c.whole.ensures c.in_err-measured.was in
    rw (x.1, x.2)
    (record {
      value = all.0;
      out_after = all.1;
    })

pub returns-then-out-length : goal.returns-then-out-length
returns-then-out-length c =
    let p = c.requires in
    let all = plain_short _ _ _ p.1 p.2 p.3 _ _ _ c.whole.ensures c.in_ok-measured.was c.if-out-length.true in
    record {
      value = all.0;
      out_after = all.1;
    }

pub returns : goal.returns
returns c =
    let p = c.requires in
    let q = c.in_ok-measured.was in
    let l = c.if-out-length.false in
    let all = plain_whole _ _ _ p.1 p.2 p.3 _ _ _ c.whole.ensures q l _ _ c.whole-2.ensures in
    record {
      value = all.0;
      out_after = all.1;
    }
