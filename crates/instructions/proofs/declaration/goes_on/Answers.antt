-- The class of a part, as the code tests it.
-- One law for each part is in Declarations.
use Rattle.instructions.proofs.Declarations.{classing}
use Rattle.instructions.proofs.declaration.goes_on.Goals as goal

pub returns-in-Version : goal.returns-in-Version
returns-in-Version c = search classing

pub returns-in-Encoding : goal.returns-in-Encoding
returns-in-Encoding c = search classing
