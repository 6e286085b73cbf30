-- `end_tag` meets its contract:
-- the ways are those of specs/Tag, fault by fault.
use Rattle.tags.proofs.Named.{finishing}
use Rattle.tags.proofs.finish.end_tag.Goals as goal

pub returns-then-not-stands : goal.returns-then-not-stands
returns-then-not-stands c = search finishing

pub returns-in_default : goal.returns-in_default
returns-in_default c = search finishing

pub returns-in_default-after_byte : goal.returns-in_default-after_byte
returns-in_default-after_byte c = search finishing

pub overflow_sub-name : goal.overflow_sub-name
overflow_sub-name c = search finishing

pub returns-then-name-le-NAME : goal.returns-then-name-le-NAME
returns-then-name-le-NAME c = search finishing

pub returns : goal.returns
returns c = search finishing
