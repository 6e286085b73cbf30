-- The four numbers of mending, as callers in Rust and C get them: "Under 0 it reports the length written, the bytes kept and the end tags
-- added; otherwise the last two are 0".
use Rattle.std.specs.Prelude.{Result}
use Rattle.mend.specs.Answer.{number_of, second_of, kept_number, added_number}
use Rattle.mend.specs.declared.Mended.{Mended}
use Rattle.mend.specs.declared.MendError.{MendError}
use Rattle.exported.specs.declared.FourNumbers.{FourNumbers}

abbrev pub mended_numbers : Result Mended MendError → FourNumbers
mended_numbers a = record { number = number_of a; second = second_of a; third = kept_number a; fourth = added_number a }
