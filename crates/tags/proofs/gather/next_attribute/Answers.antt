-- `next_attribute` meets its contract:
-- white space, a name, Eq and a value, fault by fault.
use Rattle.tags.proofs.Gathers.{attributing}
use Rattle.tags.proofs.gather.next_attribute.Goals as goal

pub returns-in_err-a : goal.returns-in_err-a
returns-in_err-a c = rw c.from_residual.ensures (search (attributing, c.in_err-a.was))

pub returns-in_err-e : goal.returns-in_err-e
returns-in_err-e c = rw c.from_residual-in_err-e.ensures (search (attributing, c.in_ok-a.was, c.in_err-e.was))

pub eq-requires : goal.eq-requires
eq-requires c = search (attributing, c.in_ok-a.was, c.in_ok-e.was)

pub returns-in_err-v : goal.returns-in_err-v
returns-in_err-v c = rw c.from_residual-in_err-v.ensures (search (attributing, c.in_ok-a.was, c.in_ok-e.was, c.in_err-v.was))

pub returns-in_err-end : goal.returns-in_err-end
returns-in_err-end c =
    rw c.from_residual-in_err-end.ensures
    (search (attributing, c.in_ok-a.was, c.in_ok-e.was, c.in_ok-v.was, c.in_err-end.was))

pub overflow_sub-result : goal.overflow_sub-result
overflow_sub-result c = search (attributing, c.in_ok-a.was, c.in_ok-e.was)

pub returns : goal.returns
returns c = search (attributing, c.in_ok-a.was, c.in_ok-e.was, c.in_ok-v.was, c.in_ok-end.was)
