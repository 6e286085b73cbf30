-- Names, production [5]: what follows the longest name at the front of some bytes, and the answer at a place. Then what the code goes by:
-- where a run of name characters ends, and one step of it.
use Rattle.std.specs.Prelude.{cond, List, ℕ, ◌+◌, drop, Option, Some, None}
use Rattle.std.proofs.Math.Option.{Option as Maybe, none, some}
use Rattle.xml.specs.Character.{character, starts, wide, run}
use Rattle.xml.specs.Productions.{is_name_start, is_name}
use Rattle.utf8.specs.Place.{ends_at}

-- what follows the longest name at the front of s, where there is one
unfoldable pub name_of : List ℕ → Maybe (List ℕ)
name_of s = cond (starts is_name_start s) (some (run is_name 0 s)) none

-- a reading from the place at of d on, by what it leaves
abbrev pub reading_at : List ℕ → ℕ → Maybe (List ℕ) → Option ℕ
reading_at d at none = None
reading_at d at (some t) = Some (ends_at d at t)

unfoldable pub name_at : List ℕ → ℕ → Option ℕ
name_at d at = reading_at d at (name_of (drop at d))

-- where the name characters from a place on end
unfoldable pub name_end : List ℕ → ℕ → ℕ
name_end d at = ends_at d at (run is_name 0 (drop at d))

-- where the name character at a place ends, and the place itself where there is none
unfoldable pub name_step : List ℕ → ℕ → ℕ
name_step d at = cond (starts is_name (drop at d)) (at + wide (character (drop at d))) at
