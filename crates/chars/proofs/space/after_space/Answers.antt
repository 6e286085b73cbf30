-- `after_space` meets its contract.
-- The loop's invariant: from at up to i there is white space.
use Rattle.chars.proofs.Spaces.{spacing}
use Rattle.chars.proofs.space.after_space.Goals as goal

pub returns-then-not-is_space : goal.returns-then-not-is_space
returns-then-not-is_space c = search spacing

pub loop-i-preserved : goal.loop-i-preserved
loop-i-preserved c = search spacing

pub returns : goal.returns
returns c = search spacing
