-- What the kinds of step share: where a step may stand, by the three tests of its kind alone. proofs/Moving.antt shows that this is where
-- specs/Select.antt has it, for every kind; no other proof goes by the kinds' names.
use Rattle.std.specs.Prelude.{◌≡◌, Bool, true, false, ℕ, ◌+◌, ◌<◌}

-- the same place, if the step may stay and the place is an element's; a place below, if it may go, and the next one unless it may go far
pub data Moves (stays goes far : Bool) (before place : ℕ) : Type 0 where
  same : stays ≡ true → place ≡ before → 0 < place → Moves stays goes far before place
  down : goes ≡ true → before < place → (far ≡ false → place ≡ before + 1) → Moves stays goes far before place
