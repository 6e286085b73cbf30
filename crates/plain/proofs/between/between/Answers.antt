-- `between` meets its contract: each way through the code has its law in proofs/Betweens.antt.
-- A text that stands at a place ends inside, so its end fits.
use Rattle.plain.proofs.Betweens.{enclosed}
use Rattle.plain.proofs.between.between.Goals as goal

pub returns-then-not-stands : goal.returns-then-not-stands
returns-then-not-stands c = search enclosed

pub overflow_add-at : goal.overflow_add-at
overflow_add-at c = search enclosed

pub returns-then-not-stands-2 : goal.returns-then-not-stands-2
returns-then-not-stands-2 c = search enclosed

pub overflow_add-result : goal.overflow_add-result
overflow_add-result c = search enclosed

pub returns : goal.returns
returns c = search enclosed
