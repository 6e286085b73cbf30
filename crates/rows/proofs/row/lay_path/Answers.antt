-- `lay_path` meets its contract. The invariant is `Joined`: the names of the first k levels are laid.
-- proofs/Rowing.antt has the law of a step.
use mathlib.Core.Path.{refl}
use Rattle.rows.proofs.Rowing.{joined_step}
use Rattle.rows.proofs.row.lay_path.Goals as goal

pub loop-k-preserved : goal.loop-k-preserved
loop-k-preserved c =
    joined_step c.requires.0 c.loop-k.invariant
    c.loop-k-test.true
    (c.lay_joint-from.ensures.wrote, c.lay_joint-from.ensures.upper_bound) refl c.copy-place.ensures
