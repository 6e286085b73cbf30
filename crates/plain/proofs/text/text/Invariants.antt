-- `text` meets its contract. The loop's invariant: i is the end or a place with a mark, and the text from i on is what is left of the text
-- from the start on. The measure is what is left of the slice.
use Prim.Native.Nat.{◌-◌}
use lib.ListN.{length}
use Rattle.plain.proofs.Texts.{Texting}
use Rattle.plain.proofs.text.text.Given as goal

abbrev pub invariant-loop-i : goal.invariant-loop-i
invariant-loop-i l = Texting l.doc l.at l.i

abbrev pub decreases-loop-i : goal.decreases-loop-i
decreases-loop-i l = length l.doc - l.i
