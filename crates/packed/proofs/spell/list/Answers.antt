-- `list` meets its contract. The invariant is `Spelling`: as many lines are laid as there were turns.
use Rattle.packed.proofs.Spelling.{spelling}
use Rattle.packed.proofs.spell.list.Goals as goal

pub returns-then-packed-at : goal.returns-then-packed-at
returns-then-packed-at c = search spelling

pub returns : goal.returns
returns c = search spelling
