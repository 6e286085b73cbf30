-- `is_declaration` meets its contract:
-- the five bytes stand there as first item, and white space after them.
use Rattle.items.proofs.Telling.{declaring}
use Rattle.items.proofs.told.is_declaration.Goals as goal

pub returns-then-not-stands : goal.returns-then-not-stands
returns-then-not-stands c = search declaring

pub returns-then-doc-at-le5 : goal.returns-then-doc-at-le5
returns-then-doc-at-le5 c = search declaring

pub returns : goal.returns
returns c = search declaring
