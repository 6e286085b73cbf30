-- `rows` meets its contract: a list at fault decides, and a sound one leaves it to the document.
use mathlib.Core.Path.{sym, ◌∙◌}
use Rattle.std.proofs.lemmas.Result.{err_from_is_err_and}
use Rattle.sheet.proofs.Answering.{both, rows_sound, rows_refused}
use Rattle.sheet.proofs.rows.Goals as goal

pub returns-in_err-read : goal.returns-in_err-read
returns-in_err-read c =
    let x = err_from_is_err_and c.from_residual.result c.from_residual.ensures.1 in
    let all = both _ _ _ (rows_refused _ _ _ c.read.ensures.value c.in_err-read.was) in
    rw (x.1, x.2)
    (record {
      value = all.0;
      out_after = all.1;
    })

pub rows_by-requires : goal.rows_by-requires
rows_by-requires c =
    let r = c.read.ensures in
    record { sound = sym r.value ∙ c.in_ok-read.was; tables = r.t_after }

pub returns : goal.returns
returns c =
    let b = c.rows_by.ensures in
    let all = both _ _ _ (rows_sound _ _ _ c.read.ensures.value c.in_ok-read.was b.value b.out_after) in
    record {
      value = all.0;
      out_after = all.1;
    }
