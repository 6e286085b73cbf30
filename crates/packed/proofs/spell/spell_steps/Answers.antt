-- `spell_steps` meets its contract. The invariant is `Stepping`: as many steps are laid as there were turns.
use Rattle.packed.proofs.Spelling.{steps_spelled}
use Rattle.packed.proofs.spell.spell_steps.Goals as goal

pub returns : goal.returns
returns c = search steps_spelled
