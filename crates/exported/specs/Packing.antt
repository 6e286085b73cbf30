-- The three numbers of the writer and the reader of a packed list.
-- "The third number is always 0."
use Rattle.std.specs.Prelude.{ℕ, Result}
use Rattle.packed.specs.Answer.{number_of, second_of}
use Rattle.packed.specs.declared.PackError.{PackError}
use Rattle.exported.specs.Numbers.{refusal_of}
use Rattle.exported.specs.declared.Numbers.{Numbers}

abbrev pub packing_of : Result ℕ PackError → Numbers
packing_of a = refusal_of (number_of a) (second_of a)
