-- `end_tag` meets its contract: one law for each way out.
-- proofs/Ending.antt has them.
use Rattle.quick.proofs.Ending.{ending, end_told}
use Rattle.quick.proofs.end.end_tag.Goals as goal

pub returns-then-doc-at : goal.returns-then-doc-at
returns-then-doc-at c = search ending

pub returns-then-doc-at-ne47 : goal.returns-then-doc-at-ne47
returns-then-doc-at-ne47 c = search ending

pub returns-then-doc-at-ne62 : goal.returns-then-doc-at-ne62
returns-then-doc-at-ne62 c = search ending

pub returns-then-same_name : goal.returns-then-same_name
returns-then-same_name c =
    end_told _ _ _ _ c.requires.1 c.if-doc-at.false
    c.if-doc-at-ne47.false c.if-doc-at-ne62.false c.same_name.ensures c.if-same_name.true

pub returns : goal.returns
returns c = search ending
