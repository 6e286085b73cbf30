-- `content` meets its contract:
-- a reference, or text.
use Rattle.items.proofs.Telling.{contents}
use Rattle.items.proofs.told.content.Goals as goal

pub returns-in-Some : goal.returns-in-Some
returns-in-Some c = search contents

pub returns-in-None : goal.returns-in-None
returns-in-None c = search contents

pub returns-in-Some-text : goal.returns-in-Some-text
returns-in-Some-text c = search contents

pub returns-in-None-text : goal.returns-in-None-text
returns-in-None-text c = search contents
