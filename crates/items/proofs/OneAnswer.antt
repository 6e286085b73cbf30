-- Two results that the public function's contract allows are equal, over the contract that the toolchain makes of the source.
-- It is lent nothing that it could change, so the result is all that it hands back.
use mathlib.Core.Path.{sym, ◌∙◌}
use Rattle.contracts.specs.One.{OneResult}
use Rattle.items.proofs.told.item.Reads as item

-- `told::item`
pub item_one : OneResult item.Asked item.Learnt
item_one κs a z z' e e' x p q = p ∙ sym q
