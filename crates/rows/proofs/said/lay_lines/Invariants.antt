-- `lay_lines` meets its contract. The invariant is `Lined`: the bytes so far are laid.
-- proofs/Laying.antt has the laws.
use Rattle.rows.proofs.Laying.{Lined}
use Rattle.rows.proofs.said.lay_lines.Given as goal

abbrev pub invariant-loop-b : goal.invariant-loop-b
invariant-loop-b l = Lined l.raw l.quoted l.initial.out l.to l.at l.special l.after l.b-index l.out
