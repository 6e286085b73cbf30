-- `finish` meets its contract: in a kept entry, open in the output, or waiting.
-- proofs/Inking.antt has the laws.
use Rattle.descent.proofs.Inking.{finishes}
use Rattle.descent.proofs.ink.finish.Goals as goal

pub returns-then-kept-clause-moves : goal.returns-then-kept-clause-moves
returns-then-kept-clause-moves c = search finishes

pub returns-then-level-reached-clause-moves : goal.returns-then-level-reached-clause-moves
returns-then-level-reached-clause-moves c = search finishes

pub returns-clause-moves : goal.returns-clause-moves
returns-clause-moves c = search finishes
