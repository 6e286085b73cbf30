-- `after_space` meets its contract.
-- The loop's invariant: from at up to i there is white space.
use Rattle.xml.specs.Productions.{is_space}
use Rattle.chars.proofs.Runs.{Running}
use Rattle.chars.proofs.space.after_space.Given as goal

abbrev pub invariant-loop-i : goal.invariant-loop-i
invariant-loop-i l = Running is_space l.s l.at l.i
