-- `plain` meets its contract: one law for each place where characters stand. proofs/Signs.antt has them.
use Rattle.references.proofs.Signs.{placing}
use Rattle.references.proofs.next.plain.Goals as goal

pub returns-in-Text : goal.returns-in-Text
returns-in-Text c = search placing

pub returns-in-Double : goal.returns-in-Double
returns-in-Double c = search placing

pub returns-in-Single : goal.returns-in-Single
returns-in-Single c = search placing
