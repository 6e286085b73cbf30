-- Two results that a public function's contract allows are equal, and so is what they leave in the buffer: one theorem for each function,
-- over the contract that the toolchain makes of the source.
use mathlib.Core.Path.{sym, ◌∙◌}
use Rattle.contracts.specs.One.{OneOutcome}
use Rattle.packed.proofs.pack.Reads as pack
use Rattle.packed.proofs.unpack.Reads as unpack

-- `pack`
pub pack_one : OneOutcome pack.Asked pack.Learnt (λ κs e. e.1.0.now)
pack_one κs a z z' e e' x p q = (p.0 ∙ sym q.0, p.1 ∙ sym q.1)

-- `unpack`
pub unpack_one : OneOutcome unpack.Asked unpack.Learnt (λ κs e. e.1.0.now)
unpack_one κs a z z' e e' x p q = (p.0 ∙ sym q.0, p.1 ∙ sym q.1)
