-- Two results that the contract of `cut` allows are equal, the answer and every byte of the buffer. And the two engines agree: what the
-- contracts of `cutter::cut` and of `cut` here allow, on the same list, document and buffer, is the same but for the number of name tests:
-- the three other numbers are equal, and every byte of the buffer is. Both are over the contracts that the toolchain makes of the source.
use mathlib.Core.Path.{◌≡◌, refl, sym, ap, ◌∙◌}
use Rattle.std.specs.Prelude.{Result, Ok, Err}
use Rattle.contracts.specs.One.{OneOutcome}
use Rattle.cutter.specs.Answer as full_answer
use Rattle.cutter.specs.declared.answer.Cut.{Cut as Full}
use Rattle.refusals.specs.declared.CutError.{CutError}
use Rattle.cutter.proofs.cut.Reads as full_cut
use Rattle.descent.specs.Agree.{Agree}
use Rattle.descent.specs.Answer.{without, number_of, second_of, third_of}
use Rattle.descent.specs.declared.answer.Cut.{Cut}
use Rattle.descent.proofs.cut.Reads as cut

pub cut_one : OneOutcome cut.Asked cut.Learnt (λ κs e. e.1.1.0.now)
cut_one κs a z z' e e' x p q = (p.0 ∙ sym q.0, p.1 ∙ sym q.1)

-- ---- the two engines

-- the answers
pub cut_agree : Agree full_cut.Asked full_cut.Learnt cut.Asked cut.Learnt (λ κs z z'. z' ≡ without z) (λ κs e. e.1.1.0.now)
    (λ κs e. e.1.1.0.now)
cut_agree κs a z z' e e' x x' p q = (q.0 ∙ sym (ap without p.0), p.1 ∙ sym q.1)

number_same : (a : Result Full CutError) → number_of (without a) ≡ full_answer.number_of a
number_same (Ok c) = refl
number_same (Err e) = refl

second_same : (a : Result Full CutError) → second_of (without a) ≡ full_answer.second_of a
second_same (Ok c) = refl
second_same (Err e) = refl

third_same : (a : Result Full CutError) → third_of (without a) ≡ full_answer.third_of a
third_same (Ok c) = refl
third_same (Err e) = refl

-- the numbers, less the fourth
abbrev pub Alike : Result Full CutError → Result Cut CutError → Type 0
Alike z z' =
    (number_of z' ≡ full_answer.number_of z) × (second_of z' ≡ full_answer.second_of z) × (third_of z' ≡ full_answer.third_of z)

pub cut_alike : Agree full_cut.Asked full_cut.Learnt cut.Asked cut.Learnt (λ κs z z'. Alike z z') (λ κs e. e.1.1.0.now)
    (λ κs e. e.1.1.0.now)
cut_alike κs a z z' e e' x x' p q =
    let g = cut_agree κs a z z' e e' x x' p q in
    let w = g.0 in (
      (ap number_of w ∙ number_same z, ap second_of w ∙ second_same z, ap third_of w ∙ third_same z),
      g.1,
    )
