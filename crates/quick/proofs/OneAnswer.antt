-- Two results that the public function's contract allows are equal, over the contract that the toolchain makes of the source.
-- What is lent to it cannot be changed by it.
use mathlib.Core.Path.{sym, ◌∙◌}
use Rattle.contracts.specs.One.{OneResult}
use Rattle.quick.proofs.end.end_tag.Reads as end_tag_lem

-- `end::end_tag`
pub end_tag_one : OneResult end_tag_lem.Asked end_tag_lem.Learnt
end_tag_one κs a z z' e e' x p q = p ∙ sym q
