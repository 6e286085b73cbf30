-- `lay_path` meets its contract. The invariant is `Joined`: the names of the first k levels are laid.
-- proofs/Rowing.antt has the laws.
use Rattle.rows.proofs.Rowing.{Joined}
use Rattle.rows.proofs.row.lay_path.Given as goal

abbrev pub invariant-loop-k : goal.invariant-loop-k
invariant-loop-k l = Joined l.doc l.starts l.lens l.level l.initial.out l.to l.place l.k l.out
