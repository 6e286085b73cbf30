-- What is answered on two lists, in document 02's words: its meaning, `Says`; the answer computed, `cover_answer`, which
-- proofs/Answering.antt shows to be the one that is said; and the numbers of each case.
use Rattle.std.specs.Prelude.{◌≡◌, Bool, true, false, List, ℕ, Result, Ok, Err}
use Rattle.paths.specs.Answer.{list_number, list_second}
use Rattle.paths.specs.Judge.{list_answer, list_paths}
use Rattle.paths.specs.declared.ListError.{ListError}
use Rattle.covers.specs.Cover.{Covered}
use Rattle.covers.specs.Test.{covered}
use Rattle.covers.specs.declared.Which.{Which}
use Rattle.covers.specs.declared.Which.TheVariants.{Narrow, Wide}
use Rattle.covers.specs.declared.CoverError.{CoverError}

-- a refusal of a list
abbrev pub refused : Which → ListError → CoverError
refused w e = record { which = w; error = e }

-- "The check takes two lists, narrow and wide"; "if every narrow path is covered as said"; "Refusals: 1 to 3 of the narrow list, then of
-- the wide one"
pub data Says (narrow wide : List ℕ) : Result Bool CoverError → Type 0 where
  narrow_refused : {e : ListError} → list_answer narrow ≡ Err e → Says narrow wide (Err (refused Narrow e))
  wide_refused : {e : ListError} → list_answer narrow ≡ Ok tt → list_answer wide ≡ Err e → Says narrow wide (Err (refused Wide e))
  yes : list_answer narrow ≡ Ok tt → list_answer wide ≡ Ok tt → Covered (list_paths narrow) (list_paths wide) → Says narrow wide (Ok true)
  no : list_answer narrow ≡ Ok tt → list_answer wide ≡ Ok tt → (Covered (list_paths narrow) (list_paths wide) → ⊥)
      → Says narrow wide (Ok false)

-- ---- computed

-- what is said of a list, with the list in its refusal
abbrev pub of_list : Which → Result (Unit {0}) ListError → Result (Unit {0}) CoverError
of_list w (Ok u) = Ok u
of_list w (Err e) = Err (refused w e)

-- the refusal of a list, or what is said if it is sound
abbrev pub refusal_or : Which → Result (Unit {0}) ListError → Result Bool CoverError → Result Bool CoverError
refusal_or w (Ok u) said = said
refusal_or w (Err e) said = Err (refused w e)

unfoldable pub cover_answer : List ℕ → List ℕ → Result Bool CoverError
cover_answer narrow wide =
    refusal_or Narrow (list_answer narrow) (refusal_or Wide (list_answer wide) (Ok (covered (list_paths narrow) (list_paths wide))))

-- ---- the numbers: "under 0 its second number is 1 if every narrow path is covered as said, else 0, and its third is 0"; refusals "with
-- third number 1 or 2 for the list"

abbrev pub number_of : Result Bool CoverError → ℕ
number_of (Ok b) = 0
number_of (Err r) = list_number r.error

abbrev pub second_of : Result Bool CoverError → ℕ
second_of (Ok true) = 1
second_of (Ok false) = 0
second_of (Err r) = list_second r.error

abbrev pub which_number : Which → ℕ
which_number Narrow = 1
which_number Wide = 2

abbrev pub third_of : Result Bool CoverError → ℕ
third_of (Ok b) = 0
third_of (Err r) = which_number r.which
