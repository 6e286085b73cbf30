-- Two results that a public function's contract allows are equal: one theorem, over the contract that the toolchain makes
-- of the source. The function is lent nothing that it could change, so the result is all that it hands back.
use mathlib.Core.Path.{sym, ◌∙◌}
use Rattle.contracts.specs.One.{OneResult}
use Rattle.values.proofs.value.value.Reads as value

-- `value::value`
pub value_one : OneResult value.Asked value.Learnt
value_one κs a z z' e e' x p q = p ∙ sym q
