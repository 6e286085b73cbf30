-- `usual_attribute` meets its contract: white space, a name, `=` and a value in quotes without a reference.
-- What stands otherwise is not told.
use Rattle.tags.proofs.Usuals.{attributed}
use Rattle.tags.proofs.usual.usual_attribute.Goals as goal

pub overflow_sub-doc : goal.overflow_sub-doc
overflow_sub-doc c = search (attributed, c.in_ok-a.was)

pub overflow_sub-result : goal.overflow_sub-result
overflow_sub-result c = search (attributed, c.in_ok-a.was)

pub returns : goal.returns
returns c = search (attributed, c.in_ok-a.was)
