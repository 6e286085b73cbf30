-- `is_space` meets its contract: its four bytes are the four ranges of [3].
-- proofs/Spaces.antt has the law.
use Rattle.chars.proofs.Spaces.{spacing}
use Rattle.chars.proofs.space.is_space.Goals as goal

pub returns : goal.returns
returns c = search spacing
