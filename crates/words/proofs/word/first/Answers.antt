-- `first` meets its contract: the zeros below the lowest bit, by eight, are the bytes of 0 before the first that is set.
-- proofs/First.antt has the law.
use native.Mathlib.Omega.{arith}
use lib.Count.{trailing_le}
use Rattle.words.proofs.First.{zeros_first}
use Rattle.words.proofs.word.first.Goals as goal

pub overflow_cast-result : goal.overflow_cast-result
overflow_cast-result c = omega (arith, trailing_le 64 c.args.m)

pub returns : goal.returns
returns c = zeros_first c.args.m
