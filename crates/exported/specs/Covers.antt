-- The three numbers of an answer on two lists, as callers in Rust and C get them.
-- Each is given by the case of the answer in the crate `covers`, specs/Answer.antt.
use Rattle.std.specs.Prelude.{Bool, Result}
use Rattle.covers.specs.Answer.{number_of, second_of, third_of}
use Rattle.covers.specs.declared.CoverError.{CoverError}
use Rattle.exported.specs.declared.Numbers.{Numbers}

abbrev pub covers_numbers : Result Bool CoverError → Numbers
covers_numbers a = record { number = number_of a; second = second_of a; third = third_of a }
