-- The numbers for each case of an answer, as callers in Rust and C get them: where the characters of n bytes end, all of them or the offset
-- of the first bad sequence; the numbers of a document alone; and the four numbers of a cut.
use Rattle.std.specs.Prelude.{List, ℕ, length, Result, Ok, Err, ⊤}
use Rattle.chars.specs.Check.{check_of}
use Rattle.chars.specs.declared.whole.CharError.{CharError}
use Rattle.document.specs.Judge.{number_of as judged_number, second_of as judged_second}
use Rattle.document.specs.declared.DocumentError.{DocumentError}
use Rattle.cutter.specs.Answer.{number_of, second_of, third_of, fourth_of}
use Rattle.cutter.specs.declared.answer.Cut.{Cut}
use Rattle.refusals.specs.declared.CutError.{CutError}
use Rattle.exported.specs.declared.Numbers.{Numbers}
use Rattle.exported.specs.declared.FourNumbers.{FourNumbers}

-- of n bytes, how many are sound
abbrev pub sound_of : ℕ → Result Unit CharError → ℕ
sound_of n (Ok tt) = n
sound_of n (Err e) = e.valid_up_to

unfoldable pub characters_end : List ℕ → ℕ
characters_end d = sound_of (length d) (check_of d)

-- a number with a second one, and no third
abbrev pub refusal_of : ℕ → ℕ → Numbers
refusal_of n s = record { number = n; second = s; third = 0 }

-- "Numbers handed back" that a document alone decides: 0 and 0 where it is sound, else 4 to 8 or 10
abbrev pub judged_of : Result ⊤ DocumentError → Numbers
judged_of j = refusal_of (judged_number j) (judged_second j)

-- a number of a cut with a second one, no third and no fourth
abbrev pub refused_of : ℕ → ℕ → FourNumbers
refused_of n s = record { number = n; second = s; third = 0; fourth = 0 }

abbrev pub numbers_of : Result Cut CutError → FourNumbers
numbers_of a = record { number = number_of a; second = second_of a; third = third_of a; fourth = fourth_of a }
