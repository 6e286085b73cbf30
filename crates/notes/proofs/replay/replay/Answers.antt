-- `replay` meets its contract.
-- The invariant is `Replaying`: the text of the notes so far is laid.
use Rattle.notes.proofs.Replaying.{replay_step}
use Rattle.notes.proofs.replay.replay.Goals as goal

pub loop-word-preserved : goal.loop-word-preserved
loop-word-preserved c =
    replay_step c.loop-word.invariant c.requires.2 c.loop-word-test.true (c.lay-len.ensures.wrote, c.lay-len.ensures.upper_bound)
