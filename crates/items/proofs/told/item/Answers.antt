-- `item` meets its contract:
-- nothing is left, or the first byte tells.
use Rattle.items.proofs.Telling.{contents}
use Rattle.items.proofs.told.item.Goals as goal

pub returns-then-at-doc : goal.returns-then-at-doc
returns-then-at-doc c = search contents
