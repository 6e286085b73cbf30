-- `in_value` meets its contract: one law for each of its three ways.
-- proofs/Attributes.antt has them.
use Rattle.paths.proofs.Attributes.{classing}
use Rattle.paths.proofs.in_value.Goals as goal

pub returns-then-c-lt32 : goal.returns-then-c-lt32
returns-then-c-lt32 c = search classing

pub returns-then-c : goal.returns-then-c
returns-then-c c = search classing

pub returns : goal.returns
returns c = search classing
