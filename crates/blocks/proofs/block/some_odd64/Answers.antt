-- `some_odd64` meets its contract.
-- The loop's invariant: `found` tells whether one of the first j places of the block is odd.
use mathlib.Core.Bool.{Bool}
use mathlib.Core.Path.{refl}
use Prim.Native.Nat.{ℕ, ◌+◌}
use Rattle.blocks.specs.Block.{some_of}
use Rattle.blocks.specs.Usual.{odd_at}
use Rattle.blocks.proofs.Until.{some_turn}
use Rattle.blocks.proofs.block.some_odd64.Goals as goal

pub loop-j-init : goal.loop-j-init
unfolding some_of
loop-j-init c = refl

pub loop-j-preserved : goal.loop-j-preserved
unfolding odd_at
loop-j-preserved c =
    let p : ℕ → Bool = λ k. odd_at c.args.s.now (c.args.i + k) in
    rw (c.loop-j.invariant, c.is_odd-found.ensures) (some_turn p c.loop-j.j)
