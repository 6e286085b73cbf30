-- `cut` meets its contract: a list at fault decides, and a sound one leaves it to the document.
-- proofs/Answering.antt has the laws.
use mathlib.Core.Path.{sym, ◌∙◌}
use Rattle.std.proofs.lemmas.Result.{err_from_is_err_and}
use Rattle.descent.proofs.Answering.{plain_sound, plain_refused}
use Rattle.descent.proofs.cut.Goals as goal

pub returns-in_err-answer : goal.returns-in_err-answer
returns-in_err-answer c =
    let x = err_from_is_err_and c.from_residual.result c.from_residual.ensures.1 in
    let all = plain_refused _ _ _ c.answer.ensures c.in_err-answer.was in
    rw (x.1, x.2)
    (record {
      value = all.0;
      out_after = all.1;
    })

pub cut_by-requires : goal.cut_by-requires
cut_by-requires c =
    sym c.answer.ensures ∙ c.in_ok-answer.was

pub returns : goal.returns
returns c =
    let b = c.cut_by.ensures in
    let all = plain_sound _ _ _ c.answer.ensures c.in_ok-answer.was (b.value, b.out_after) in
    record {
      value = all.0;
      out_after = all.1;
    }
