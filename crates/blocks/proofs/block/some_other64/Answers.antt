-- `some_other64` meets its contract.
-- The loop's invariant: `found` tells whether one of the bytes of the block before the index is not plain.
use mathlib.Core.Bool.{Bool}
use mathlib.Core.Path.{◌≡◌, refl, ◌∙◌}
use Prim.Native.Nat.{ℕ, ◌+◌, ◌-◌}
use native.Mathlib.Omega.{arith}
use lib.ListN.{get_or, take, drop}
use lib.Seq.{get_or-take, get_or-drop}
use Rattle.blocks.specs.Block.{some_of, is_other}
use Rattle.blocks.proofs.Until.{some_turn}
use Rattle.blocks.proofs.block.some_other64.Goals as goal

pub loop-b-init : goal.loop-b-init
unfolding some_of
loop-b-init c = refl

pub loop-b-preserved : goal.loop-b-preserved
loop-b-preserved c =
    let start = c.args in
    let k = c.loop-b.b-index in
    let n = (start.i + 64) - start.i in
    let p : ℕ → Bool = λ k. is_other (get_or start.s.now (start.i + k) 0) in
    let e : get_or (take n (drop start.i start.s.now)) k 0 ≡ get_or start.s.now (start.i + k) 0
    = get_or-take n (drop start.i start.s.now) k 0 (omega arith) ∙ get_or-drop start.i start.s.now k 0 in
    rw (c.loop-b.invariant, c.is_other-found.ensures, e) (some_turn p k)
