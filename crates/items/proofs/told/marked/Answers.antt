-- `marked` meets its contract:
-- a comment, a section, a document type, or a tag that breaks its production.
use Rattle.items.proofs.Telling.{marking}
use Rattle.items.proofs.told.marked.Goals as goal

pub returns-in-Some : goal.returns-in-Some
returns-in-Some c = search marking

pub returns-in-None : goal.returns-in-None
returns-in-None c = search marking

pub returns-in-Some-section : goal.returns-in-Some-section
returns-in-Some-section c = search marking

pub returns-in-None-section : goal.returns-in-None-section
returns-in-None-section c = search marking

pub returns-then-stands-3 : goal.returns-then-stands-3
returns-then-stands-3 c = search marking

pub returns : goal.returns
returns c = search marking
