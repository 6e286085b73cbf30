-- `name_tail` meets its contract. The loop's invariant: from at up to i there are name characters.
-- The measure is what is left of the slice.
use Rattle.chars.proofs.Names.{naming}
use Rattle.chars.proofs.name.name_tail.Goals as goal

pub returns-then-e-i : goal.returns-then-e-i
returns-then-e-i c = search naming

pub loop-i-smaller : goal.loop-i-smaller
loop-i-smaller c = search naming

pub loop-i-preserved : goal.loop-i-preserved
loop-i-preserved c = search naming

pub returns : goal.returns
returns c = search naming
