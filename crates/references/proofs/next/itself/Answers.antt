-- `itself` meets its contract: by `]]>`, and by the character that stands there. proofs/Signs.antt has the laws.
use Rattle.references.proofs.Signs.{standing}
use Rattle.references.proofs.next.itself.Goals as goal

pub returns-then-closes : goal.returns-then-closes
returns-then-closes c = search standing

pub returns-then-plain : goal.returns-then-plain
returns-then-plain c = search standing

pub returns-else-plain : goal.returns-else-plain
returns-else-plain c = search standing

pub returns-in-None : goal.returns-in-None
returns-in-None c = search standing
