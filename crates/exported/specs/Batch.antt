-- The three numbers for each case of the answer on a batch, as callers in Rust and C get them.
-- What they are is in the crate batch.
use Rattle.std.specs.Prelude.{Result}
use Rattle.batch.specs.Answer.{number_of, second_of, third_of}
use Rattle.batch.specs.declared.Batch.{Batch}
use Rattle.batch.specs.declared.BatchError.{BatchError}
use Rattle.exported.specs.declared.Numbers.{Numbers}

abbrev pub batch_numbers_of : Result Batch BatchError → Numbers
batch_numbers_of a = record { number = number_of a; second = second_of a; third = third_of a }
