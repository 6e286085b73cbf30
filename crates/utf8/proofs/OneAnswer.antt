-- Two results that the contract of `sequence_at` allows are equal, over the contract that the toolchain makes of the source.
-- It cannot change what it is lent, so the result is all that it hands back.
use mathlib.Core.Path.{sym, ◌∙◌}
use Rattle.contracts.specs.One.{OneResult}
use Rattle.utf8.proofs.sequence_at.Reads as sequence_at_lem

pub sequence_at_one : OneResult sequence_at_lem.Asked sequence_at_lem.Learnt
sequence_at_one κs a z z' e e' x p q = p ∙ sym q
