-- `text` meets its contract. The loop's invariant: i is the end or a place with a mark, and the text from i on is what is left of the text
-- from the start on. The measure is what is left of the slice.
use Rattle.plain.proofs.Texts.{texting}
use Rattle.plain.proofs.text.text.Goals as goal

pub loop-i-init : goal.loop-i-init
loop-i-init c = search texting

pub returns-then-doc-i-ne93 : goal.returns-then-doc-i-ne93
returns-then-doc-i-ne93 c = search texting

pub returns-then-stands : goal.returns-then-stands
returns-then-stands c = search texting

pub loop-i-smaller : goal.loop-i-smaller
loop-i-smaller c = search texting

pub loop-i-preserved : goal.loop-i-preserved
loop-i-preserved c = search texting

pub returns : goal.returns
returns c = search texting
