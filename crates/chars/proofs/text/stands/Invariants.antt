-- `stands` meets its contract. The loop's invariant: the first k bytes of the text stand before the place i.
-- The measure is what is left of the text.
use Prim.Native.Nat.{◌-◌}
use lib.ListN.{length}
use Rattle.chars.proofs.Texts.{Standing}
use Rattle.chars.proofs.text.stands.Given as goal

abbrev pub invariant-loop-k : goal.invariant-loop-k
invariant-loop-k l = Standing l.s l.at l.text l.i l.k

abbrev pub decreases-loop-k : goal.decreases-loop-k
decreases-loop-k l = length l.text - l.k
