-- `stands` meets its contract. The loop's invariant: the first k bytes of the text stand before the place i.
-- The measure is what is left of the text.
use Rattle.chars.proofs.Texts.{standing}
use Rattle.chars.proofs.text.stands.Goals as goal

pub returns-then-i-s : goal.returns-then-i-s
returns-then-i-s c = search standing
