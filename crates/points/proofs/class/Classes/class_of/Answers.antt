-- `class_of` meets its contract:
-- the class by the two tests. proofs/Classes.antt has the laws.
use Rattle.points.proofs.Classes.{classing}
use Rattle.points.proofs.class.Classes.class_of.Goals as goal

pub returns-then-starts : goal.returns-then-starts
returns-then-starts c = search classing

pub returns-then-goes_on : goal.returns-then-goes_on
returns-then-goes_on c = search classing

pub returns : goal.returns
returns c = search classing
