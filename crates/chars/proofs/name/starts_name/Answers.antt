-- `starts_name` meets its contract: one law for each of its four ways.
-- proofs/Names.antt has them.
use native.Mathlib.Omega.{arith}
use Rattle.chars.proofs.Names.{answering}
use Rattle.chars.proofs.name.starts_name.Goals as goal

pub returns-then-at-s : goal.returns-then-at-s
returns-then-at-s c = search answering

pub overflow_cast-b : goal.overflow_cast-b
overflow_cast-b c = omega (arith, c.shared_slice_known-2-1.given c.args.at)

pub returns-then-b-lt128 : goal.returns-then-b-lt128
returns-then-b-lt128 c = search answering

pub returns-in-Some : goal.returns-in-Some
returns-in-Some c = search answering

pub returns-in-None : goal.returns-in-None
returns-in-None c = search answering
