-- `note` meets its contract:
-- past 32 names nothing is kept; else the name is kept after those before it.
use Rattle.tags.proofs.Kept.{noting}
use Rattle.tags.proofs.gather.note.Goals as goal

pub returns-then-count-ge-ATTRIBUTES : goal.returns-then-count-ge-ATTRIBUTES
returns-then-count-ge-ATTRIBUTES c = search noting

pub returns : goal.returns
returns c = search noting
