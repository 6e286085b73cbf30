-- `start_tag` meets its contract:
-- three texts, one after another.
use Rattle.writer.proofs.Laying.{laying}
use Rattle.writer.proofs.start_tag.Goals as goal

pub returns : goal.returns
returns c = search laying
