-- The states by level: entry i is the state below the innermost of i open elements, entry 0 the fresh one, for each level that can have an
-- element below it. The names of the open elements are kept by level, by their places.
use Rattle.std.specs.Prelude.{◌≡◌, List, [], ℕ, ◌≤◌, ◌<◌, length, get_or}
use Rattle.paths.specs.Path.{Path}
use Rattle.matcher.specs.State.{state_of}
use Rattle.matcher.specs.declared.state.MatchState.{MatchState}
use Rattle.trees.specs.Written.{root_first}
use Rattle.output.specs.Levels.{name_at, span}

pub record Standing (ps : List Path) (all : List MatchState) (d starts lens : List ℕ) (level : ℕ) : Type 0 where
  pub state : (i : ℕ) → i ≤ level → i < 64
      → get_or all i (record { bits = [] }) ≡ state_of ps (root_first (span (name_at d starts lens) 0 i))
  pub long : length all ≡ 64
