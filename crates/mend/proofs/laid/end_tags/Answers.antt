-- `end_tags` meets its contract. The invariant is `Closing`: the end tags of the levels from `level` on are laid.
use Rattle.mend.proofs.Closing.{closing}
use Rattle.mend.proofs.laid.end_tags.Goals as goal

pub loop-level-preserved : goal.loop-level-preserved
loop-level-preserved c = search closing
