-- The three numbers of rows for a spreadsheet, as callers in Rust and C get them: "Under 0 the numbers are the length written and the
-- elements selected". What they are for each answer is in the crate sheet.
use Rattle.std.specs.Prelude.{Result}
use Rattle.sheet.specs.Answer.{number_of, second_of, third_of}
use Rattle.sheet.specs.declared.Table.{Table}
use Rattle.refusals.specs.declared.CutError.{CutError}
use Rattle.exported.specs.declared.Numbers.{Numbers}

abbrev pub rows_numbers : Result Table CutError → Numbers
rows_numbers a = record { number = number_of a; second = second_of a; third = third_of a }
