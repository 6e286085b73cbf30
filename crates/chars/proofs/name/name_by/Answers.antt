-- `name_by` meets its contract: a name is its first character and the run of name characters from there.
-- proofs/Names.antt has the laws.
use Rattle.chars.proofs.Names.{answering}
use Rattle.chars.proofs.name.name_by.Goals as goal

pub returns-then-starts_name : goal.returns-then-starts_name
returns-then-starts_name c = search answering

pub returns : goal.returns
returns c = search answering
