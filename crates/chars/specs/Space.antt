-- White space, production [3]: where a run of it from a place on ends. The place itself where there is none, also past the end of the
-- bytes.
use Rattle.std.specs.Prelude.{List, ℕ, drop}
use Rattle.xml.specs.Character.{run}
use Rattle.xml.specs.Productions.{is_space}
use Rattle.utf8.specs.Place.{ends_at}

unfoldable pub space_end : List ℕ → ℕ → ℕ
space_end d at = ends_at d at (run is_space 0 (drop at d))
