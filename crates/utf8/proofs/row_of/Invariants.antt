-- `row_of` meets its contract. The loop's invariant: the first row from the index on that has the byte a is the first of all that has it.
-- antt sees by computing that the constant has the rows of the definition.
use Rattle.utf8.proofs.Rows.{Rowing}
use Rattle.utf8.proofs.row_of.Given as goal

abbrev pub invariant-loop-row : goal.invariant-loop-row
invariant-loop-row l = Rowing l.a l.row-index
