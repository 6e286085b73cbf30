-- `start` meets its contract: in a kept entry; marked; selected; the root; waiting.
-- proofs/Inking.antt has the laws.
use Rattle.descent.proofs.Inking.{starting}
use Rattle.descent.proofs.ink.start.Goals as goal

pub returns-then-kept-clause-moves : goal.returns-then-kept-clause-moves
returns-then-kept-clause-moves c = search starting

pub returns-then-level-eq0-clause-moves : goal.returns-then-level-eq0-clause-moves
returns-then-level-eq0-clause-moves c = search starting

pub returns-in-Marked-clause-moves : goal.returns-in-Marked-clause-moves
returns-in-Marked-clause-moves c = search starting

pub returns-in-Selected : goal.returns-in-Selected
returns-in-Selected c = record {
  moves = search starting;
  level_after = search starting;
}
