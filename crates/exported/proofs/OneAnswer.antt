-- Two results that one contract allows are equal, over the contracts that the toolchain makes of the source: of `choughbell_characters`,
-- `choughbell_judge`, `refusal`, `list_refusal`, `cut_refusal` and `numbers_of`, which can't change what they are lent, and of
-- `choughbell_cut` and `choughbell_cut_with` with what they leave in the buffer. Of the log nothing is said. Then the plain engine: one
-- answer, and `plain_alike`, the theorem of Q-9 of the two functions that callers have: on the same list, document and buffer their first
-- three numbers are equal, and every byte of the buffer is. Last a batch. Packed lists, covering and mending have theirs in
-- PackingNumbers, CoverNumbers and Mended.
use mathlib.Core.Path.{◌≡◌, sym, ap, ◌∙◌}
use Rattle.contracts.specs.One.{OneResult, OneOutcome}
use Rattle.exported.proofs.choughbell_characters.Reads as characters
use Rattle.exported.proofs.choughbell_judge.Reads as judge
use Rattle.exported.proofs.refusal.Reads as refusal
use Rattle.exported.proofs.list_refusal.Reads as list_refusal
use Rattle.exported.proofs.cut_refusal.Reads as cut_refusal
use Rattle.exported.proofs.numbers_of.Reads as numbers
use Rattle.exported.proofs.choughbell_cut.Reads as cut
use Rattle.exported.proofs.choughbell_cut_with.Reads as cut_with
use Rattle.exported.proofs.engine.choughbell_plain.Reads as plain
use Rattle.descent.specs.Agree.{Agree}
use Rattle.exported.specs.declared.Numbers.{Numbers}
use Rattle.exported.specs.declared.FourNumbers.{FourNumbers}
use Rattle.exported.proofs.post.choughbell_batch.Reads as batch

pub characters_one : OneResult characters.Asked characters.Learnt
characters_one κs a z z' e e' x p q = p ∙ sym q

pub judge_one : OneResult judge.Asked judge.Learnt
judge_one κs a z z' e e' x p q = p ∙ sym q

pub refusal_one : OneResult refusal.Asked refusal.Learnt
refusal_one κs a z z' e e' x p q = p ∙ sym q

pub list_refusal_one : OneResult list_refusal.Asked list_refusal.Learnt
list_refusal_one κs a z z' e e' x p q = p ∙ sym q

pub cut_refusal_one : OneResult cut_refusal.Asked cut_refusal.Learnt
cut_refusal_one κs a z z' e e' x p q = p ∙ sym q

pub numbers_one : OneResult numbers.Asked numbers.Learnt
numbers_one κs a z z' e e' x p q = p ∙ sym q

pub cut_one : OneOutcome cut.Asked cut.Learnt (λ κs e. e.1.1.0.now)
cut_one κs a z z' e e' x p q = (p.0 ∙ sym q.0, p.1 ∙ sym q.1)

pub cut_with_one : OneOutcome cut_with.Asked cut_with.Learnt (λ κs e. e.1.1.0.now)
cut_with_one κs a z z' e e' x p q = (p.0 ∙ sym q.0, p.1 ∙ sym q.1)

-- ---- the plain engine

pub plain_one : OneOutcome plain.Asked plain.Learnt (λ κs e. e.1.1.0.now)
plain_one κs a z z' e e' x p q = (p.0 ∙ sym q.0, p.1 ∙ sym q.1)

-- the first three of four numbers
abbrev pub first_three : FourNumbers → Numbers
first_three z = record { number = z.number; second = z.second; third = z.third }

pub plain_alike : Agree cut.Asked cut.Learnt plain.Asked plain.Learnt (λ κs z z'. z' ≡ first_three z) (λ κs e. e.1.1.0.now)
    (λ κs e. e.1.1.0.now)
plain_alike κs a z z' e e' x x' p q = (q.0 ∙ sym (ap first_three p.0), p.1 ∙ sym q.1)

-- ---- a batch

pub batch_one : OneOutcome batch.Asked batch.Learnt (λ κs e. e.1.1.0.now)
batch_one κs a z z' e e' x p q = (p.0 ∙ sym q.0, p.1 ∙ sym q.1)
