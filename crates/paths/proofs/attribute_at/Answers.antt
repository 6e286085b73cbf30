-- `attribute_at` meets its contract: each of its four texts is inside where it stands, a name ends behind its first byte, and a value no
-- sooner than it begins. proofs/Attributes.antt has the laws.
use Rattle.paths.proofs.Attributes.{tested}
use Rattle.paths.proofs.attribute_at.Goals as goal

pub returns-then-not-stands-2 : goal.returns-then-not-stands-2
returns-then-not-stands-2 c = search tested

pub returns-then-not-stands-3 : goal.returns-then-not-stands-3
returns-then-not-stands-3 c = search tested
