-- The plain engine's numbers. A case of its answer gives its numbers; and the numbers of an answer without its name tests are the first
-- three of that answer.
use mathlib.Core.Path.{◌≡◌, refl, sym, ap, ◌∙◌}
use mathlib.Core.List.{List}
use Prim.Native.Nat.{ℕ}
use Rattle.std.specs.Prelude.{Result, Ok, Err}
use Rattle.cutter.specs.Answer.{answer_of}
use Rattle.cutter.specs.declared.answer.Cut.{Cut as Full}
use Rattle.refusals.specs.declared.CutError.{CutError}
use Rattle.descent.specs.Answer.{without}
use Rattle.descent.specs.declared.answer.Cut.{Cut}
use Rattle.exported.specs.Plain.{plain_of, three_of}
use Rattle.exported.specs.declared.Numbers.{Numbers}

pub plain_case : {a b : Result Cut CutError} {r : Numbers} → a ≡ b → r ≡ plain_of b → r ≡ plain_of a
plain_case h q = q ∙ sym (ap plain_of h)

pub ruleset plainly = (plain_case)

plain_three : (a : Result Full CutError) → plain_of (without a) ≡ three_of a
plain_three (Ok c) = refl
plain_three (Err e) = refl

pub plain_told : {a : Result Cut CutError} {r : Numbers} (list d : List ℕ) (room : ℕ) → r ≡ plain_of a → a ≡ without (answer_of list d room)
    → r ≡ three_of (answer_of list d room)
plain_told list d room q h = q ∙ ap plain_of h ∙ plain_three (answer_of list d room)
