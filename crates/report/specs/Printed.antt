-- All that the program `cut` prints, for a list and a standard input. Document 01's sentences stand beside what they say.
use Rattle.std.specs.Prelude.{cond, List, [], ◌∷◌, ◌++◌, ℕ, ltb, eqb, length, Result}
use Rattle.xml.specs.Notation.{bytes}
use Rattle.trees.specs.Written.{cut_of}
use Rattle.cutter.specs.Answer.{answer_of, number_of, second_of, third_of}
use Rattle.cutter.specs.declared.answer.Cut.{Cut}
use Rattle.refusals.specs.declared.CutError.{CutError}
use Rattle.report.specs.Decimal.{decimal}

-- a space and a number
abbrev pub spaced : ℕ → List ℕ
spaced n = 32 ∷ decimal n

abbrev pub newline : List ℕ
newline = 10 ∷ []

-- "one space parts the word and the numbers"
abbrev pub line_of : List ℕ → ℕ → ℕ → List ℕ
line_of word a b = word ++ spaced a ++ spaced b ++ newline

-- "`kept`, the count selected, the length, LF, the cut, LF"
abbrev pub kept_of : ℕ → List ℕ → List ℕ
kept_of selected cut = line_of (bytes "kept") selected (length cut) ++ cut ++ newline

-- "`refused`, the number, the second number, LF"
abbrev pub refused_of : ℕ → ℕ → List ℕ
refused_of number second = line_of (bytes "refused") number second

-- the cut is kept under 0
abbrev pub told_of : Result Cut CutError → List ℕ → List ℕ
told_of a cut = cond (eqb (number_of a) 0) (kept_of (third_of a) cut) (refused_of (number_of a) (second_of a))

-- "the document from standard input, at most 32,768 bytes (else it prints `too long` and LF and nothing more, for every list). Its output
-- room is 65,536 bytes."
unfoldable pub printed : List ℕ → List ℕ → List ℕ
printed list input =
    cond (ltb 32768 (length input)) (bytes "too long" ++ newline) (told_of (answer_of list input 65536) (cut_of list input))
