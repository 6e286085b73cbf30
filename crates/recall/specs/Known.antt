-- What is known of an element by the row of its name and the state of its parent; and what a record that was kept may be: of no row, or
-- what is known of its own row and state.
use Rattle.std.specs.Prelude.{◌≡◌, Bool, cond, ◌&&◌, List, ℕ, ◌≤◌, ◌<◌, eqb}
use Rattle.xml.specs.Productions.{same}
use Rattle.matcher.specs.Fit.{fit_at}
use Rattle.matcher.specs.State.{fresh_state, deeper_of, verdict_by, tests_by}
use Rattle.matcher.specs.declared.Verdict.TheVariants.{Unselected}
use Rattle.matcher.specs.declared.state.MatchState.{MatchState}
use Rattle.recall.specs.declared.Known.{Known}

-- whether a record is of a row and a state
abbrev pub is_of : Known → ℕ → MatchState → Bool
is_of e k m = eqb e.row k && same m.bits e.parent.bits

-- the name tests tried, where they are counted
abbrev pub tests_in : Bool → List ℕ → ℕ → MatchState → ℕ
tests_in counts t k m = cond counts (tests_by m (fit_at t k)) 0

-- by the tables t
unfoldable pub known_of : Bool → List ℕ → ℕ → MatchState → Known
known_of counts t k m =
    record {
      row = k;
      parent = m;
      below = deeper_of m (fit_at t k);
      verdict = verdict_by m (fit_at t k);
      tests = tests_in counts t k m;
    }

unfoldable pub unknown : Known
unknown = record { row = 513; parent = fresh_state; below = fresh_state; verdict = Unselected; tests = 0 }

pub data Recalls (counts : Bool) (t : List ℕ) (e : Known) : Type 0 where
  nothing : 512 < e.row → Recalls counts t e
  something : e ≡ known_of counts t e.row e.parent → e.tests ≤ 512 → Recalls counts t e
