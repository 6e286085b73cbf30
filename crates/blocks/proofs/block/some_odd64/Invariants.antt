-- `some_odd64` meets its contract.
-- The loop's invariant: `found` tells whether one of the first j places of the block is odd.
use mathlib.Core.Path.{◌≡◌}
use Prim.Native.Nat.{ℕ, ◌+◌}
use Rattle.blocks.specs.Block.{some_of}
use Rattle.blocks.specs.Usual.{odd_at}
use Rattle.blocks.proofs.block.some_odd64.Given as goal

abbrev pub invariant-loop-j : goal.invariant-loop-j
invariant-loop-j l = l.found ≡ some_of (λ (k : ℕ). odd_at l.s (l.i + k)) l.j
