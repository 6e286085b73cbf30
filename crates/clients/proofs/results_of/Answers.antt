-- `results_of` meets its contract: the numbers of each answer, one behind the other.
-- There is no loop.
use Rattle.clients.proofs.Results.{laid_same}
use Rattle.clients.proofs.results_of.Goals as goal

pub returns : goal.returns
returns c =
    laid_same c.numbers_of-first.ensures c.numbers_of-second.ensures c.numbers_of-third.ensures
    c.numbers_of-fourth.ensures
