-- `lay_lines` meets its contract. The invariant is `Listed`: the lines before a place are laid, and nothing but sound lines is left.
-- The measure is what is left of the list.
use Prim.Native.Nat.{◌-◌}
use lib.ListN.{length}
use Rattle.packed.proofs.Laying.{Listed}
use Rattle.packed.proofs.lay.lay_lines.Given as goal

abbrev pub invariant-loop-at : goal.invariant-loop-at
invariant-loop-at l = Listed l.text l.initial.out l.at l.to l.out

abbrev pub decreases-loop-at : goal.decreases-loop-at
decreases-loop-at l = length l.text - l.at
