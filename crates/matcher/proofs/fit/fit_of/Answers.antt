-- `fit_of` meets its contract: the row of a name has its fit.
use mathlib.Core.Path.{◌∙◌}
use Rattle.matcher.proofs.Serving.{row_few, row_fit}
use Rattle.matcher.proofs.fit.fit_of.Goals as goal

pub fit_by-requires : goal.fit_by-requires
fit_by-requires c = row_few c.requires _ c.row_of-row.ensures

pub returns : goal.returns
returns c = c.fit_by.ensures ∙ row_fit c.requires _ c.row_of-row.ensures
