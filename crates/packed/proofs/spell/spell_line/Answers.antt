-- `spell_line` meets its contract: the steps, the test and the end, one behind another.
-- proofs/Spelling.antt has the law.
use Rattle.packed.proofs.Spelling.{lining}
use Rattle.packed.proofs.spell.spell_line.Goals as goal

pub returns : goal.returns
returns c = search lining
