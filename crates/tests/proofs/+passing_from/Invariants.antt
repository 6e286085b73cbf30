-- `passing_from` ends: it calls itself with half of the bits.
use Rattle.tests.proofs.+passing_from.Given as goal

abbrev pub decreases-passing_from : goal.decreases-passing_from
decreases-passing_from l = l.selecting
