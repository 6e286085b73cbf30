-- Two results that one contract allows are equal, with what they leave in the buffer, over the contracts that the toolchain makes of the
-- source: of `choughbell_pack` and `choughbell_unpack`.
use mathlib.Core.Path.{sym, ◌∙◌}
use Rattle.contracts.specs.One.{OneOutcome}
use Rattle.exported.proofs.packing.choughbell_pack.Reads as pack
use Rattle.exported.proofs.packing.choughbell_unpack.Reads as unpack

pub pack_one : OneOutcome pack.Asked pack.Learnt (λ κs e. e.1.0.now)
pack_one κs a z z' e e' x p q = (p.0 ∙ sym q.0, p.1 ∙ sym q.1)

pub unpack_one : OneOutcome unpack.Asked unpack.Learnt (λ κs e. e.1.0.now)
unpack_one κs a z z' e e' x p q = (p.0 ∙ sym q.0, p.1 ∙ sym q.1)
