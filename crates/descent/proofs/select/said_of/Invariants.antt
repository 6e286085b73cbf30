-- `said_of` meets its contract. The invariant: what the lines before tell, with those from here on, is what all tell. The measure is what
-- is left of the list. proofs/Lines.antt has the laws.
use Prim.Native.Nat.{◌-◌}
use lib.ListN.{length}
use Rattle.attributes.specs.Held.{attributes_in}
use Rattle.document.specs.Levels.{names_of}
use Rattle.trees.specs.Written.{root_first}
use Rattle.descent.proofs.Lines.{Saying}
use Rattle.descent.proofs.select.said_of.Given as goal

abbrev pub invariant-loop-at : goal.invariant-loop-at
invariant-loop-at l =
    Saying l.list (root_first (names_of l.doc l.starts l.lens l.level)) (attributes_in 0 l.tag) l.at l.selected l.marked

abbrev pub decreases-loop-at : goal.decreases-loop-at
decreases-loop-at l =
    length l.list - l.at
