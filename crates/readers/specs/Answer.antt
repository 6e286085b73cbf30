-- What an answer in places says of a reader on what is left: a reader that began at the place `at` of d leaves what stands at the place
-- answered, or neither has an end.
use Rattle.std.specs.Prelude.{List, ℕ, ◌≤◌, Option, Some, None}
use Rattle.std.proofs.Math.Option.{Option as Maybe, none, some}
use Rattle.utf8.specs.Place.{Stands}

pub data Answers (d : List ℕ) (at : ℕ) : Option ℕ → Maybe (List ℕ) → Type 0 where
  ends : {e : ℕ} {t : List ℕ} → Stands d e t → at ≤ e → Answers d at (Some e) (some t)
  faults : Answers d at None none
