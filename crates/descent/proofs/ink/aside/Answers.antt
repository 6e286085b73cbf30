-- `aside` meets its contract: written inside a kept entry, else dropped.
-- proofs/Inking.antt has the laws.
use Rattle.descent.proofs.Inking.{asides}
use Rattle.descent.proofs.ink.aside.Goals as goal

pub returns-then-kept-clause-moves : goal.returns-then-kept-clause-moves
returns-then-kept-clause-moves c = search asides
