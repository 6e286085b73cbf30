-- `spell_test` meets its contract: no test, or one.
-- proofs/Spelling.antt has the laws.
use Rattle.packed.proofs.Spelling.{testing}
use Rattle.packed.proofs.spell.spell_test.Goals as goal

pub returns-then-n-eq0 : goal.returns-then-n-eq0
returns-then-n-eq0 c = search testing

pub returns : goal.returns
returns c = search testing
