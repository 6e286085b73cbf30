-- `scan` meets its contract. The loop's invariant: the scan from the place on, with what is open there, is the scan from the start.
-- The measure is what is left of the document.
use Rattle.document.proofs.Judging.{scanning}
use Rattle.document.proofs.judge.scan.Goals as goal

pub loop-starts-init : goal.loop-starts-init
loop-starts-init c = search scanning

pub place-requires : goal.place-requires
place-requires c = search scanning

pub loop-starts-smaller : goal.loop-starts-smaller
loop-starts-smaller c = search scanning

pub loop-starts-preserved : goal.loop-starts-preserved
loop-starts-preserved c = search scanning

pub returns-in-Fault : goal.returns-in-Fault
returns-in-Fault c = rw c.from.ensures (search scanning)

pub returns-in-Over : goal.returns-in-Over
returns-in-Over c = search scanning
