-- What an answer in places says of a reader of references: the character said is the reader's, and what stands at the place answered is
-- what it leaves; or neither has an end.
use Rattle.std.specs.Prelude.{List, ℕ, ◌≤◌, Option, Some, None}
use Rattle.std.proofs.Math.Option.{Option as Maybe, none, some}
use Rattle.utf8.specs.Place.{Stands, ends_at}
use Rattle.readers.specs.Value.{Said}

pub data Tells (d : List ℕ) (at : ℕ) : Option (ℕ × ℕ) → Maybe Said → Type 0 where
  says : {c e : ℕ} {t : List ℕ} → Stands d e t → at ≤ e → Tells d at (Some (c, e)) (some (record { code = c; rest = t }))
  faults : Tells d at None none

-- the saying from the place at of d on, by what it leaves
abbrev pub saying_at : List ℕ → ℕ → Maybe Said → Option (ℕ × ℕ)
saying_at d at none = None
saying_at d at (some r) = Some (r.code, ends_at d at r.rest)
