-- `some_strange64` meets its contract.
-- The loop's invariant: `found` tells whether one of the first j places of the block is strange.
use mathlib.Core.Path.{◌≡◌}
use Prim.Native.Nat.{ℕ, ◌+◌}
use Rattle.blocks.specs.Block.{some_of}
use Rattle.blocks.specs.Usual.{strange_at}
use Rattle.blocks.proofs.block.some_strange64.Given as goal

abbrev pub invariant-loop-j : goal.invariant-loop-j
invariant-loop-j l = l.found ≡ some_of (λ (k : ℕ). strange_at l.s (l.i + k)) l.j
