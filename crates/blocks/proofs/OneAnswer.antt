-- Two results that a public function's contract allows are equal: one theorem for each function, over the contract that the toolchain makes
-- of the source. No function here is lent anything that it could change, so the result is all that it hands back.
use mathlib.Core.Path.{sym, ◌∙◌}
use Rattle.contracts.specs.One.{OneResult}
use Rattle.blocks.proofs.block.is_other.Reads as is_other_lem
use Rattle.blocks.proofs.block.after_block.Reads as after_block

-- `block::is_other`
pub is_other_one : OneResult is_other_lem.Asked is_other_lem.Learnt
is_other_one κs a z z' e e' x p q = p ∙ sym q

-- `block::after_block`
pub after_block_one : OneResult after_block.Asked after_block.Learnt
after_block_one κs a z z' e e' x p q = p ∙ sym q
