-- `spell_kind` meets its contract: one law for each answer.
-- proofs/Spelling.antt has them.
use Rattle.packed.proofs.Spelling.{small}
use Rattle.packed.proofs.spell.spell_kind.Goals as goal

pub returns-in-DescendantOrSelf : goal.returns-in-DescendantOrSelf
returns-in-DescendantOrSelf c = search small
