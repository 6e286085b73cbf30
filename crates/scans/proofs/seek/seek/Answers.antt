-- `seek` meets its contract.
-- The loop's invariant: what is sought from i on is what was sought from the start on.
use Rattle.scans.proofs.Seeks.{sought}
use Rattle.scans.proofs.seek.seek.Goals as goal

pub loop-i-init : goal.loop-i-init
loop-i-init c = search sought

pub returns-then-stands : goal.returns-then-stands
returns-then-stands c = search sought

pub loop-i-preserved : goal.loop-i-preserved
loop-i-preserved c = search sought

pub returns : goal.returns
returns c = search sought
