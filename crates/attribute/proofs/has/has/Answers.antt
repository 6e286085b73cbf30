-- `has` meets its contract. The loop's invariant: what is asked is among the attributes that are left exactly where it is among all. The
-- measure is what is left of the tag.
use Rattle.attribute.proofs.Having.{having}
use Rattle.attribute.proofs.has.has.Goals as goal

pub returns-in_default : goal.returns-in_default
returns-in_default c = search having

pub returns-in_default-name_by : goal.returns-in_default-name_by
returns-in_default-name_by c = search having

pub eq-requires : goal.eq-requires
eq-requires c = search having

pub returns-in_default-eq : goal.returns-in_default-eq
returns-in_default-eq c = search having

pub returns-in_default-value : goal.returns-in_default-value
returns-in_default-value c = search having

pub is-requires : goal.is-requires
is-requires c = search having

pub returns-then-is : goal.returns-then-is
returns-then-is c = search having

pub loop-a-smaller : goal.loop-a-smaller
loop-a-smaller c = search having

pub loop-a-preserved : goal.loop-a-preserved
loop-a-preserved c = search having
