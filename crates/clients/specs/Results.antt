-- The numbers of four clients, as callers in Rust and C get them: the four numbers of each answer, one client behind the other.
use Rattle.std.specs.Prelude.{List, [], ◌∷◌, ℕ, Result}
use Rattle.cutter.specs.Answer.{number_of, second_of, third_of, fourth_of}
use Rattle.cutter.specs.declared.answer.Cut.{Cut}
use Rattle.refusals.specs.declared.CutError.{CutError}

-- the numbers of one answer, before those of others
abbrev pub numbers_before : Result Cut CutError → List ℕ → List ℕ
numbers_before a ns = number_of a ∷ second_of a ∷ third_of a ∷ fourth_of a ∷ ns

abbrev pub results_of : Result Cut CutError → Result Cut CutError → Result Cut CutError → Result Cut CutError → List ℕ
results_of a b c d = numbers_before a (numbers_before b (numbers_before c (numbers_before d [])))
