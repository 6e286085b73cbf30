-- `is_char` meets its contract: one law for each stretch between the borders of [2].
-- proofs/Borders.antt has them.
use Rattle.xml.proofs.Borders.{charring}
use Rattle.points.proofs.allowed.is_char.Goals as goal

pub returns-then-c-lt32 : goal.returns-then-c-lt32
returns-then-c-lt32 c = search charring

pub returns-then-c-lt55296 : goal.returns-then-c-lt55296
returns-then-c-lt55296 c = search charring

pub returns-then-c-lt57344 : goal.returns-then-c-lt57344
returns-then-c-lt57344 c = search charring

pub returns-then-c-lt65534 : goal.returns-then-c-lt65534
returns-then-c-lt65534 c = search charring

pub returns-then-c-lt65536 : goal.returns-then-c-lt65536
returns-then-c-lt65536 c = search charring

pub returns : goal.returns
returns c = search charring
