-- `states_of` meets its contract. The invariant: the states of the first k levels are made, as the laws of proofs/Restanding.antt have
-- them.
use Rattle.paths.specs.Judge.{list_paths}
use Rattle.seats.specs.Standing.{Standing}
use Rattle.seats.proofs.standing.states_of.Given as goal

abbrev pub invariant-loop-k : goal.invariant-loop-k
invariant-loop-k l = Standing (list_paths l.list) l.all l.doc l.starts l.lens l.k
