-- Two results that a contract allows are equal: the number of notes and every note of the log; the place after the text, and the buffer.
-- The theorems are over the contracts that the toolchain makes of the source.
use mathlib.Core.Path.{sym, ◌∙◌}
use Rattle.contracts.specs.One.{OneOutcome}
use Rattle.writer.proofs.OneAnswer.{wrote_one}
use Rattle.notes.proofs.made.note.Reads as note
use Rattle.notes.proofs.made.extend.Reads as extend
use Rattle.notes.proofs.replay.replay.Reads as replay

-- `made::note`
pub note_one : OneOutcome note.Asked note.Learnt (λ κs e. e.0.now)
note_one κs a z z' e e' x p q = (p.0 ∙ sym q.0, p.1 ∙ sym q.1)

-- `made::extend`
pub extend_one : OneOutcome extend.Asked extend.Learnt (λ κs e. e.0.now)
extend_one κs a z z' e e' x p q = (p.0 ∙ sym q.0, p.1 ∙ sym q.1)

-- `replay::replay`
pub replay_one : OneOutcome replay.Asked replay.Learnt (λ κs e. e.1.1.1.0.now)
replay_one κs a z z' e e' x = wrote_one
