-- Where a client stands between two tapes: what it keeps stands for an engine from which the rest of the pass comes to what it comes to
-- from the start; so does the scan of the document. It is what a pass knows of itself (`Passing` of the crate passes), less the states and
-- what is known of elements.
use Rattle.std.specs.Prelude.{◌≡◌, Bool, List, ℕ, ◌*◌, ◌≤◌, length}
use Rattle.paths.specs.Judge.{list_paths}
use Rattle.document.proofs.Judging.{Judging}
use Rattle.trees.specs.Engine.{Engine}
use Rattle.trees.specs.Written.{verdicts}
use Rattle.output.specs.Levels.{Stands}
use Rattle.passes.specs.Opens.{Opens}
use Rattle.passes.proofs.Rests.{Rest}
use Rattle.passes.proofs.Passing.{counted_tests}
use Rattle.tape.specs.Taped.{Spot, spot_of}
use Rattle.seats.specs.declared.seat.Seat.{Seat}

-- where it stands in the document
abbrev pub seat_spot : List ℕ → List ℕ → List ℕ → Seat → Spot
seat_spot d starts lens s = spot_of d starts lens s.opened s.at s.first

-- o₀ is the buffer at the beginning, o the buffer now, g the log
pub record Seated (counts : Bool) (list d o₀ starts lens : List ℕ) (s : Seat) (o g : List ℕ) : Type 0 where
  pub judging : Judging d starts lens s.opened s.at s.first
  pub x : Engine
  pub rest : Rest (verdicts (list_paths list)) (counted_tests counts (list_paths list)) d s.at s.first x s.tests
  pub stands : Stands d starts lens o₀ s.opened.level.0 s.run.reached.0 s.run.kept s.at s.run.len
      s.run.count s.run.noted o g x
  pub opens : Opens d starts lens s.opened.level.0
  pub order : s.run.reached.0 ≤ s.opened.level.0
  pub far : s.run.len ≤ s.at * 4294967296
  pub few : s.run.count ≤ s.at * 2
  pub many : s.tests ≤ s.at * 512
  pub room : length o ≡ length o₀

-- whatever the buffer was
abbrev pub Begun : Bool → List ℕ → List ℕ → List ℕ → List ℕ → Seat → List ℕ → List ℕ → Type 0
Begun counts list d starts lens s o g = (o₀ : List ℕ) × Seated counts list d o₀ starts lens s o g
