-- `renewed` meets its contract: what was known before, or what is made anew.
use Rattle.recall.proofs.Knowing.{recalled}
use Rattle.recall.proofs.Known.renewed.Goals as goal

pub returns-then-is_of : goal.returns-then-is_of
returns-then-is_of c = recalled c.requires.0 c.requires.1 _ c.is_of.ensures c.if-is_of.true
