-- Two results that one contract allows are equal, over the contracts that the toolchain makes of the source: of what C is given by the
-- library `exported`, with what a function leaves in its buffer. Of the log of `choughbell_cut_with` nothing is said.
use mathlib.Core.Path.{sym, ◌∙◌}
use Rattle.contracts.specs.One.{OneResult, OneOutcome}
use Rattle.exported_c.proofs.choughbell_characters.Reads as characters
use Rattle.exported_c.proofs.choughbell_judge.Reads as judge
use Rattle.exported_c.proofs.choughbell_cut.Reads as cut
use Rattle.exported_c.proofs.choughbell_cut_with.Reads as cut_with
use Rattle.exported_c.proofs.choughbell_plain.Reads as plain
use Rattle.exported_c.proofs.choughbell_batch.Reads as batch
use Rattle.exported_c.proofs.choughbell_covers.Reads as covers
use Rattle.exported_c.proofs.choughbell_pack.Reads as pack
use Rattle.exported_c.proofs.choughbell_unpack.Reads as unpack
use Rattle.exported_c.proofs.mending.choughbell_mend.Reads as mend

pub characters_one : OneResult characters.Asked characters.Learnt
characters_one κs a z z' e e' x p q = p ∙ sym q

pub judge_one : OneResult judge.Asked judge.Learnt
judge_one κs a z z' e e' x p q = p ∙ sym q

pub cut_one : OneOutcome cut.Asked cut.Learnt (λ κs e. e.1.1.0.now)
cut_one κs a z z' e e' x p q = (p.0 ∙ sym q.0, p.1 ∙ sym q.1)

pub cut_with_one : OneOutcome cut_with.Asked cut_with.Learnt (λ κs e. e.1.1.0.now)
cut_with_one κs a z z' e e' x p q = (p.0 ∙ sym q.0, p.1 ∙ sym q.1)

pub plain_one : OneOutcome plain.Asked plain.Learnt (λ κs e. e.1.1.0.now)
plain_one κs a z z' e e' x p q = (p.0 ∙ sym q.0, p.1 ∙ sym q.1)

pub batch_one : OneOutcome batch.Asked batch.Learnt (λ κs e. e.1.1.0.now)
batch_one κs a z z' e e' x p q = (p.0 ∙ sym q.0, p.1 ∙ sym q.1)

pub covers_one : OneResult covers.Asked covers.Learnt
covers_one κs a z z' e e' x p q = p ∙ sym q

pub pack_one : OneOutcome pack.Asked pack.Learnt (λ κs e. e.1.0.now)
pack_one κs a z z' e e' x p q = (p.0 ∙ sym q.0, p.1 ∙ sym q.1)

pub unpack_one : OneOutcome unpack.Asked unpack.Learnt (λ κs e. e.1.0.now)
unpack_one κs a z z' e e' x p q = (p.0 ∙ sym q.0, p.1 ∙ sym q.1)

pub mend_one : OneOutcome mend.Asked mend.Learnt (λ κs e. e.1.0.now)
mend_one κs a z z' e e' x p q = (p.0 ∙ sym q.0, p.1 ∙ sym q.1)
