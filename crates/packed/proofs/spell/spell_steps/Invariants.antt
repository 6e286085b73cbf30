-- `spell_steps` meets its contract. The invariant is `Stepping`: as many steps are laid as there were turns.
use Rattle.packed.proofs.Spelling.{Stepping}
use Rattle.packed.proofs.spell.spell_steps.Given as goal

abbrev pub invariant-loop : goal.invariant-loop
invariant-loop l = Stepping l.packed l.at l.count l.initial.out l.to l.counter l.end l.place l.out
