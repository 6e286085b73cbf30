-- `passes` meets its contract:
-- names of two lengths differ, and else their bytes are compared.
use Rattle.descent.proofs.Places.{naming_step}
use Rattle.descent.proofs.select.passes.Goals as goal

pub returns-then-len-n : goal.returns-then-len-n
returns-then-len-n c = search naming_step

pub returns : goal.returns
returns c = search naming_step
