-- `has` meets its contract. The loop's invariant: what is asked is among the attributes that are left exactly where it is among all. The
-- measure is what is left of the tag.
use Prim.Native.Nat.{◌-◌}
use lib.ListN.{length}
use Rattle.attribute.proofs.Having.{Having}
use Rattle.attribute.proofs.has.has.Given as goal

abbrev pub invariant-loop-a : goal.invariant-loop-a
invariant-loop-a l = Having l.tag l.name l.text l.i

abbrev pub decreases-loop-a : goal.decreases-loop-a
decreases-loop-a l = length l.tag - l.i
