-- `markup` meets its contract:
-- the second byte tells the kind.
use Rattle.items.proofs.Telling.{marked_up}
use Rattle.items.proofs.told.markup.Goals as goal

pub returns-then-doc-at-eq1 : goal.returns-then-doc-at-eq1
returns-then-doc-at-eq1 c = search marked_up

pub returns-then-b-eq47 : goal.returns-then-b-eq47
returns-then-b-eq47 c = search marked_up

pub returns : goal.returns
returns c = search marked_up
