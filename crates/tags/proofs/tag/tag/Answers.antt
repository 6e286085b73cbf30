-- `tag` meets its contract:
-- the ways are those of specs/Tag, fault by fault.
use Rattle.tags.proofs.Tagging.{tagging}
use Rattle.tags.proofs.tag.tag.Goals as goal

pub returns-then-not-stands : goal.returns-then-not-stands
returns-then-not-stands c = search tagging

pub returns-in_default : goal.returns-in_default
returns-in_default c = search tagging

pub gather-held-requires : goal.gather-held-requires
gather-held-requires c = search tagging

pub overflow_sub-name : goal.overflow_sub-name
overflow_sub-name c = search tagging

pub returns-then-stands : goal.returns-then-stands
returns-then-stands c = search tagging

pub returns-then-stands-2 : goal.returns-then-stands-2
returns-then-stands-2 c = search tagging

pub returns : goal.returns
returns c = search tagging
