-- `cut_all` meets its contract:
-- a list at fault decides, and a sound one leaves it to the batch.
use mathlib.Core.Path.{sym, ◌∙◌}
use Rattle.std.proofs.lemmas.Result.{err_from_is_err_and}
use Rattle.batch.proofs.Answering.{list_sound, list_refused}
use Rattle.batch.proofs.cut_all.Goals as goal

pub returns-in_err-read : goal.returns-in_err-read
returns-in_err-read c =
    let x = err_from_is_err_and c.from_residual.result c.from_residual.ensures.1 in
    let all = list_refused _ _ _ c.read.ensures.value c.in_err-read.was in
    rw (x.1, x.2)
    (record {
      value = all.0;
      out_after = all.1;
    })

pub cut_all_by-requires : goal.cut_all_by-requires
cut_all_by-requires c =
    let r = c.read.ensures in
    record { sound = sym r.value ∙ c.in_ok-read.was; tables = r.t_after }

pub returns : goal.returns
returns c =
    let all = list_sound _ _ _ c.read.ensures.value c.in_ok-read.was (c.cut_all_by.ensures.value, c.cut_all_by.ensures.out_after) in
    record {
      value = all.0;
      out_after = all.1;
    }
