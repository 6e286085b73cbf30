-- `items` meets its contract. The loop's invariant is `Reeling`: the tape has the tags among the items so far, and the spot reached is the
-- one behind them. The measure is what is left of the document.
use Prim.Native.Nat.{◌-◌, ◌≤◌}
use lib.ListN.{length}
use Rattle.tape.specs.Taped.{spot_of}
use Rattle.reel.specs.Reeling.{Reeling}
use Rattle.reel.proofs.items.Given as goal

abbrev pub invariant-loop-tags : goal.invariant-loop-tags
invariant-loop-tags l =
    (length l.doc ≤ 16777216) × Reeling l.doc
    (spot_of l.doc l.initial.starts l.initial.lens l.initial.opened l.at-2 l.first-2) l.starts l.lens l.tape l.opened l.at
    l.first l.items l.tags

abbrev pub decreases-loop-tags : goal.decreases-loop-tags
decreases-loop-tags l = length l.doc -
    l.at
