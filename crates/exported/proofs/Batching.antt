-- The numbers of a case of the answer on a batch are those of the answer that is this case.
-- And the rules under which the exported functions on a batch are proved.
use mathlib.Core.Path.{◌≡◌, sym, ap, ◌∙◌}
use Rattle.std.specs.Prelude.{Result}
use Rattle.batch.specs.declared.Batch.{Batch}
use Rattle.batch.specs.declared.BatchError.{BatchError}
use Rattle.exported.specs.Batch.{batch_numbers_of}
use Rattle.exported.specs.declared.Numbers.{Numbers}

pub batch_case : {a b : Result Batch BatchError} {r : Numbers} → a ≡ b → r ≡ batch_numbers_of b → r ≡ batch_numbers_of a
batch_case h q = q ∙ sym (ap batch_numbers_of h)

pub ruleset batching = (batch_case)
