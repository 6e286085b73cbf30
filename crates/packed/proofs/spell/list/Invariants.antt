-- `list` meets its contract. The invariant is `Spelling`: as many lines are laid as there were turns.
use Rattle.packed.proofs.Spelling.{Spelling}
use Rattle.packed.proofs.spell.list.Given as goal

abbrev pub invariant-loop : goal.invariant-loop
invariant-loop l = Spelling l.packed l.initial.out l.counter l.at l.to l.out
