-- `byte_at` meets its contract: past the end 0, and inside the byte.
-- proofs/Spelling.antt has the laws.
use native.Mathlib.Omega.{arith}
use Rattle.packed.proofs.Spelling.{byte_here}
use Rattle.packed.proofs.spell.byte_at.Goals as goal

pub overflow_cast-result : goal.overflow_cast-result
overflow_cast-result c =
    omega (arith, c.type_inv.packed c.args.at)

pub returns : goal.returns
returns c =
    byte_here c.args.packed.now c.args.at (omega (arith, c.type_inv.packed c.args.at))
