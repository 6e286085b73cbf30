-- `end_tag` meets its contract:
-- four texts, one after another.
use Rattle.writer.proofs.Laying.{laying}
use Rattle.writer.proofs.end_tag.Goals as goal

pub returns : goal.returns
returns c = search laying
