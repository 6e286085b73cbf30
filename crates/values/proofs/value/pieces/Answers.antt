-- `pieces` meets its contract. The loop's invariant: what the pieces leave from i on is what they leave from the start, and a mark stands
-- at i, or i is the end. The measure is what is left of the document.
use native.Mathlib.Omega.{arith}
use Rattle.values.proofs.Pieces.{piecing, pieces_fault}
use Rattle.values.proofs.value.pieces.Goals as goal

pub loop-i-init : goal.loop-i-init
loop-i-init c = search piecing

pub returns-then-doc-i-ne38 : goal.returns-then-doc-i-ne38
returns-then-doc-i-ne38 c = search piecing

pub loop-i-smaller : goal.loop-i-smaller
loop-i-smaller c = search piecing

pub loop-i-preserved : goal.loop-i-preserved
loop-i-preserved c = search piecing

pub returns-in-None : goal.returns-in-None
returns-in-None c =
    pieces_fault c.loop-i.invariant (omega arith) c.reference.ensures
    c.in-None.is

pub returns : goal.returns
returns c = search piecing
