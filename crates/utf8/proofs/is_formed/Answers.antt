-- `is_formed` meets its contract: one law for each of its eight ways.
-- proofs/Rows.antt has them.
use Rattle.utf8.proofs.Rows.{forming}
use Rattle.utf8.proofs.is_formed.Goals as goal

pub returns-then-row : goal.returns-then-row
returns-then-row c = search forming

pub returns-then-n-lt2 : goal.returns-then-n-lt2
returns-then-n-lt2 c = search forming

pub returns-then-b-row : goal.returns-then-b-row
returns-then-b-row c = search forming

pub returns-then-row-b : goal.returns-then-row-b
returns-then-row-b c = search forming

pub returns-then-n-lt3 : goal.returns-then-n-lt3
returns-then-n-lt3 c = search forming

pub returns-then-not-is_later : goal.returns-then-not-is_later
returns-then-not-is_later c = search forming

pub returns-then-n-lt4 : goal.returns-then-n-lt4
returns-then-n-lt4 c = search forming

pub returns : goal.returns
returns c = search forming
