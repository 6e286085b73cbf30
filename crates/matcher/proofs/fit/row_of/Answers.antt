-- `row_of` meets its contract: the parts of the tables serve the search, and the place found is the name's.
use Rattle.matcher.proofs.Serving.{serves_tables, serves_place}
use Rattle.matcher.proofs.fit.row_of.Goals as goal

pub find-requires : goal.find-requires
find-requires c = serves_tables c.requires

pub returns : goal.returns
returns c =
    serves_place c.requires c.find.ensures
