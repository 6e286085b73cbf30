-- `row_of` meets its contract. The loop's invariant: the first row from the index on that has the byte a is the first of all that has it.
-- antt sees by computing that the constant has the rows of the definition.
use Rattle.utf8.proofs.row_of.Goals.{else-row-a-via-then-row-a+else-a-row, else-row-a-via-else-row-a}
use borrow.Author.Rules.{rules}
use Rattle.xml.specs.Utf8.{rows}
use Rattle.utf8.proofs.Rows.{row_start, row_here, rowing}
use Rattle.utf8.proofs.row_of.Goals as goal

pub loop-row-init : goal.loop-row-init
loop-row-init c = row_start

pub returns-then-a-row : goal.returns-then-a-row
unfolding rows
returns-then-a-row c =
    row_here c.loop-row.invariant (search rules) c.if-row-a.true c.if-a-row.true

pub loop-row-preserved : goal.loop-row-preserved
unfolding rows
loop-row-preserved c =
    elim c.else-row-a.branch [ else-row-a-via-then-row-a+else-a-row w ↦ search rowing | else-row-a-via-else-row-a w ↦ search rowing ]

pub returns : goal.returns
returns c = search rowing
