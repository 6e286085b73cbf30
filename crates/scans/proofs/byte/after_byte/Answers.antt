-- `after_byte` meets its contract:
-- the byte stands there, another does, or nothing is left.
use Rattle.scans.proofs.Ends.{bytewise}
use Rattle.scans.proofs.byte.after_byte.Goals as goal

pub returns-then-at-s : goal.returns-then-at-s
returns-then-at-s c = search bytewise

pub returns-then-s-at : goal.returns-then-s-at
returns-then-s-at c = search bytewise

pub returns : goal.returns
returns c = search bytewise
