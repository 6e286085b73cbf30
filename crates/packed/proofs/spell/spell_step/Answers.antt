-- `spell_step` meets its contract: the kind, and behind it the name.
-- proofs/Spelling.antt has the law.
use Rattle.packed.proofs.Spelling.{stepping}
use Rattle.packed.proofs.spell.spell_step.Goals as goal

pub returns : goal.returns
returns c = search stepping
