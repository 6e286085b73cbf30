-- Two results that one contract allows are equal, over the contracts that the toolchain makes of the source: of `judge` and `length_at`,
-- which can't change what they are lent, and of `lay_length` with what it leaves in the buffer.
use mathlib.Core.Path.{refl, sym, ◌∙◌}
use Rattle.contracts.specs.One.{OneResult, OneOutcome}
use Rattle.bundle.proofs.judge.Reads as judge
use Rattle.bundle.proofs.length_at.Reads as length_at
use Rattle.bundle.proofs.lay_length.Reads as lay_length

pub judge_one : OneResult judge.Asked judge.Learnt
judge_one κs a z z' e e' x p q = p ∙ sym q

pub length_at_one : OneResult length_at.Asked length_at.Learnt
length_at_one κs a z z' e e' x p q = p ∙ sym q

pub lay_length_one : OneOutcome lay_length.Asked lay_length.Learnt (λ κs e. e.0.now)
lay_length_one κs a z z' e e' x p q = (refl, p ∙ sym q)
