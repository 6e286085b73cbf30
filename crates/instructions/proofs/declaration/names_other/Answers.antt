-- Another encoding: what stands before it, the encoding, and what stands behind it.
-- One law for each return is in Declarations.
use Rattle.instructions.proofs.Declarations.{telling}
use Rattle.instructions.proofs.declaration.names_other.Goals as goal

pub returns-in_default : goal.returns-in_default
returns-in_default c = search telling

pub returns-in_default-setting : goal.returns-in_default-setting
returns-in_default-setting c = search telling

pub returns-in-Some-closing : goal.returns-in-Some-closing
returns-in-Some-closing c = search telling

pub returns-in-None : goal.returns-in-None
returns-in-None c = search telling
