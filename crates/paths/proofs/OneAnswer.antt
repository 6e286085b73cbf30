-- Two results that a public function's contract allows are equal: one theorem for each function, over the contract that the toolchain makes
-- of the source. No function here is lent anything that it could change, so the result is all that it hands back.
use mathlib.Core.Path.{sym, ◌∙◌}
use Rattle.contracts.specs.One.{OneResult}
use Rattle.paths.proofs.step_at.Reads as step_at_lem
use Rattle.paths.proofs.end_at.Reads as end_at_lem
use Rattle.paths.proofs.answer.Reads as answer

-- `step_at`
pub step_at_one : OneResult step_at_lem.Asked step_at_lem.Learnt
step_at_one κs a z z' e e' x p q = p ∙ sym q

-- `end_at`
pub end_at_one : OneResult end_at_lem.Asked end_at_lem.Learnt
end_at_one κs a z z' e e' x p q = p ∙ sym q

-- `answer`
pub answer_one : OneResult answer.Asked answer.Learnt
answer_one κs a z z' e e' x p q = p ∙ sym q
