-- What is answered: the answer of the crate cutter without the number of name tests, which "the single cut, but not the batch or the plain
-- engine," hands back (Q-13); and the three numbers for each answer.
use Rattle.std.specs.Prelude.{ℕ, Result, Ok, Err}
use Rattle.cutter.specs.Answer.{cut_number, cut_second}
use Rattle.cutter.specs.declared.answer.Cut.{Cut as Full}
use Rattle.refusals.specs.declared.CutError.{CutError}
use Rattle.descent.specs.declared.answer.Cut.{Cut}

abbrev pub without : Result Full CutError → Result Cut CutError
without (Ok c) = Ok (record { length = c.length; selected = c.selected })
without (Err e) = Err e

-- ---- "Numbers handed back": the number; the length, the line or the offset; the elements selected

abbrev pub number_of : Result Cut CutError → ℕ
number_of (Ok c) = 0
number_of (Err e) = cut_number e

abbrev pub second_of : Result Cut CutError → ℕ
second_of (Ok c) = c.length
second_of (Err e) = cut_second e

abbrev pub third_of : Result Cut CutError → ℕ
third_of (Ok c) = c.selected
third_of (Err e) = 0
