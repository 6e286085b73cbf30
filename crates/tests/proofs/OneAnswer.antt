-- Two results that a public function's contract allows are equal: one theorem for each function, over the contract that the toolchain makes
-- of the source. Nothing that they are lent can be changed.
use mathlib.Core.Path.{sym, ◌∙◌}
use Rattle.contracts.specs.One.{OneResult}
use Rattle.tests.proofs.any.Reads as any
use Rattle.tests.proofs.passing.Reads as passing

-- `any`
pub any_one : OneResult any.Asked any.Learnt
any_one κs a z z' e e' x p q = p ∙ sym q

-- `passing`
pub passing_one : OneResult passing.Asked passing.Learnt
passing_one κs a z z' e e' x p q = p ∙ sym q
