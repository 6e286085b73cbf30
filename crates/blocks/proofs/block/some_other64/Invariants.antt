-- `some_other64` meets its contract.
-- The loop's invariant: `found` tells whether one of the bytes of the block before the index is not plain.
use mathlib.Core.Path.{◌≡◌}
use Prim.Native.Nat.{ℕ, ◌+◌}
use lib.ListN.{get_or}
use Rattle.blocks.specs.Block.{some_of, is_other}
use Rattle.blocks.proofs.block.some_other64.Given as goal

abbrev pub invariant-loop-b : goal.invariant-loop-b
invariant-loop-b l = l.found ≡ some_of (λ (k : ℕ). is_other (get_or l.s (l.i + k) 0)) l.b-index
