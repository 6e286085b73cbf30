-- `replay` meets its contract.
-- The invariant is `Replaying`: the text of the notes so far is laid.
use Rattle.notes.proofs.Replaying.{Replaying}
use Rattle.notes.proofs.replay.replay.Given as goal

abbrev pub invariant-loop-word : goal.invariant-loop-word
invariant-loop-word l = Replaying l.doc l.log l.initial.out l.noted l.word-index l.len l.out
