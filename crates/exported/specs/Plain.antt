-- The three numbers of the plain engine: those of its own answer, and those of the first engine's answer, less the name tests.
use Rattle.std.specs.Prelude.{Result}
use Rattle.cutter.specs.Answer as full
use Rattle.cutter.specs.declared.answer.Cut.{Cut as Full}
use Rattle.refusals.specs.declared.CutError.{CutError}
use Rattle.descent.specs.Answer.{number_of, second_of, third_of}
use Rattle.descent.specs.declared.answer.Cut.{Cut}
use Rattle.exported.specs.declared.Numbers.{Numbers}

abbrev pub plain_of : Result Cut CutError → Numbers
plain_of a = record { number = number_of a; second = second_of a; third = third_of a }

abbrev pub three_of : Result Full CutError → Numbers
three_of a = record { number = full.number_of a; second = full.second_of a; third = full.third_of a }
