-- `spell_tested` meets its contract: five texts, one behind another.
-- proofs/Spelling.antt has the law.
use Rattle.packed.proofs.Spelling.{testing}
use Rattle.packed.proofs.spell.spell_tested.Goals as goal

pub returns : goal.returns
returns c = search testing
