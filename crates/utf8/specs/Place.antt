-- Places in a slice, and what is left of it from a place on: functions answer places, definitions speak of what is left. Every crate that
-- reads bytes uses these two.
use Rattle.std.specs.Prelude.{◌≡◌, List, ℕ, ◌+◌, ◌-◌, ◌≤◌, length, drop}

-- the place where a reading ends that began at the place at of d and left t
unfoldable pub ends_at : List ℕ → ℕ → List ℕ → ℕ
ends_at d at t = at + (length (drop at d) - length t)

-- at the place e of d stands t, all that is left of d
pub record Stands (d : List ℕ) (e : ℕ) (t : List ℕ) : Type 0 where
  pub rest : drop e d ≡ t
  pub inside : e ≤ length d
