-- `items` meets its contract. The loop's invariant is `Reeling`: the tape has the tags among the items so far, and the spot reached is the
-- one behind them. The measure is what is left of the document.
use mathlib.Core.Path.{refl, ◌∙◌}
use mathlib.Core.Logic.{inl, inr}
use Prim.Native.Nat.{◌-◌}
use Rattle.reel.proofs.Reels.{reel_on, reels}
use Rattle.reel.proofs.items.Goals.{in-Start, in_default}
use Rattle.reel.proofs.items.Goals as goal

pub loop-tags-smaller : goal.loop-tags-smaller
loop-tags-smaller c = search reels

pub loop-tags-preserved : goal.loop-tags-preserved
loop-tags-preserved c =
    let v = c.loop-tags.invariant in
    let e = c.next_item-seen.ensures.item_value in
    let q = c.next_item-seen.ensures.placed_value in
    let h = c.in-Fine.is in (
      v.0,
      reel_on v.1 e q h c.loop-tags-test.true
          (elim c.match-next.branch [
            | in-Start w ↦ inl (w.starts-is ∙ w.keep.ensures.starts_after, w.lens-is ∙ w.keep.ensures.lens_after)
            | in_default w ↦ inr (w.in_default.not-Start, w.starts-is, w.lens-is)
          ])
          c.put-tags.ensures.value c.put-tags.ensures.tape_after c.after-opened.ensures c.end_of-at.ensures refl,
    )
