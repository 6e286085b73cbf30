-- `head_of` meets its contract:
-- too long, another encoding, a sequence that is no character, or none of these.
use Rattle.four.proofs.Serving.{heads}
use Rattle.four.proofs.parts.head_of.Goals as goal

pub returns-then-doc-gt-BYTES : goal.returns-then-doc-gt-BYTES
returns-then-doc-gt-BYTES c = search heads

pub returns-then-names_other : goal.returns-then-names_other
returns-then-names_other c = search heads

pub returns-in-Err : goal.returns-in-Err
returns-in-Err c = search heads
