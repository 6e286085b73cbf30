-- `fit_by` meets its contract: a row of the tables with the list's columns.
use Rattle.matcher.proofs.Serving.{fit_made}
use Rattle.matcher.proofs.fit.fit_by.Goals as goal

pub returns : goal.returns
returns c =
    fit_made _ _ c.numbers-passes.ensures c.numbers-stays.ensures c.numbers-goes.ensures c.numbers-far.ensures c.numbers-lasts.ensures
    c.numbers-marks.ensures
