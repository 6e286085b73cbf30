-- `value_is` meets its contract. The loop's invariant: what is left of the value and of the text are the same exactly where the whole value
-- and the whole text are. The measure is what is left of the document.
use Rattle.normal.proofs.Comparing.{comparing}
use Rattle.normal.proofs.value.value_is.Goals as goal

pub returns-then-doc-at : goal.returns-then-doc-at
returns-then-doc-at c = search comparing

pub loop-c-init : goal.loop-c-init
loop-c-init c = search comparing

pub loop-c-smaller-then-joins : goal.loop-c-smaller-then-joins
loop-c-smaller-then-joins c = search comparing

pub loop-c-preserved-then-joins : goal.loop-c-preserved-then-joins
loop-c-preserved-then-joins c = search comparing

pub put-requires : goal.put-requires
put-requires c = search comparing

pub loop-c-smaller-in-Some : goal.loop-c-smaller-in-Some
loop-c-smaller-in-Some c = search comparing

pub loop-c-preserved-in-Some : goal.loop-c-preserved-in-Some
loop-c-preserved-in-Some c = search comparing

pub returns-in-None : goal.returns-in-None
returns-in-None c = search comparing

pub put-requires-in-Referred : goal.put-requires-in-Referred
put-requires-in-Referred c = search comparing

pub loop-c-smaller : goal.loop-c-smaller
loop-c-smaller c = search comparing

pub loop-c-preserved : goal.loop-c-preserved
loop-c-preserved c = search comparing

pub returns-in-None-put : goal.returns-in-None-put
returns-in-None-put c = search comparing

pub returns-in-Nothing : goal.returns-in-Nothing
returns-in-Nothing c = search comparing
