-- The sizes of document 01 that the tables stand on:
-- 32 lines, 16 steps a line, 8,192 bytes.
use Rattle.std.specs.Prelude.{◌≤◌, List, length}
use Rattle.paths.specs.Path.{Path, All, print_list}

pub record Sized (ps : List Path) : Type 0 where
  pub few : length ps ≤ 32
  pub short : All (λ p. length p.steps ≤ 16) ps
  pub bytes : length (print_list ps) ≤ 8192
