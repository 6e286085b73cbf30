-- `tag_on` meets its contract:
-- the four numbers of the entry say the tag.
use Rattle.tape.specs.Tape.{entry_at}
use Rattle.tape.proofs.tag_on.Goals as goal

pub returns : goal.returns
unfolding entry_at
returns c = c.shaped.ensures
