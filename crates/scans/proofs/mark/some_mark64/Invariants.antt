-- `some_mark64` meets its contract.
-- The loop's invariant: `found` tells whether one of the bytes of the block before the index is a mark.
use mathlib.Core.Path.{◌≡◌}
use Prim.Native.Nat.{ℕ, ◌+◌}
use lib.ListN.{get_or}
use Rattle.blocks.specs.Block.{some_of}
use Rattle.readers.specs.Plain.{is_mark}
use Rattle.scans.proofs.mark.some_mark64.Given as goal

abbrev pub invariant-loop-b : goal.invariant-loop-b
invariant-loop-b l = l.found ≡ some_of (λ (k : ℕ). is_mark l.q (get_or l.s (l.i + k) 0)) l.b-index
