-- `queried` meets its contract:
-- a declaration, or an instruction.
use Rattle.items.proofs.Telling.{querying}
use Rattle.items.proofs.told.queried.Goals as goal

pub returns-in-Some : goal.returns-in-Some
returns-in-Some c = search querying

pub returns-in-None : goal.returns-in-None
returns-in-None c = search querying

pub returns-in-Some-instruction : goal.returns-in-Some-instruction
returns-in-Some-instruction c = search querying

pub returns-in-None-instruction : goal.returns-in-None-instruction
returns-in-None-instruction c = search querying
