-- `value_end` meets its contract. The loop's invariant: from at up to i there are characters of a value.
-- The measure is what is left of the list. proofs/Attributes.antt has the laws.
use Rattle.paths.proofs.Attributes.{valuing}
use Rattle.paths.proofs.value_end.Goals as goal

pub returns-then-not-in_value : goal.returns-then-not-in_value
returns-then-not-in_value c = search valuing

pub loop-i-smaller : goal.loop-i-smaller
loop-i-smaller c = search valuing

pub loop-i-preserved : goal.loop-i-preserved
loop-i-preserved c = search valuing

pub returns-in-None : goal.returns-in-None
returns-in-None c = search valuing

pub returns : goal.returns
returns c = search valuing
