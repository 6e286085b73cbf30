-- `choughbell_four` meets its contract: the results are the numbers of the library's four answers, and each buffer is as the library
-- leaves it. There is no loop.
use Rattle.clients.proofs.Results.{results_same}
use Rattle.clients.proofs.choughbell_four.Goals as goal

pub returns : goal.returns
returns c =
    let said = c.four-a.ensures in
    record {
      results_after = results_same c.results_of.ensures said.first_value said.second_value said.third_value said.fourth_value;
      o1_after = said.o1_after;
      o2_after = said.o2_after;
      o3_after = said.o3_after;
      o4_after = said.o4_after;
    }
