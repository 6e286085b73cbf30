-- One of four clients in a pass: what it hands over, and what the pass comes to for it.
use Rattle.std.specs.Prelude.{◌≡◌, Bool, true, false, List, ℕ, ◌≤◌, length, Result}
use Rattle.matcher.specs.Fit.{Serves}
use Rattle.document.specs.declared.ItemError.{ItemError}
use Rattle.passes.specs.Passed.{PassedBy}
use Rattle.passes.specs.declared.Measured.{Measured}

-- a client that takes part has the tables of a sound list
pub record Joins (live : Bool) (list t g : List ℕ) : Type 0 where
  pub serves : live ≡ true → Serves list t
  pub small : length g ≤ 16777216

-- For a client that takes part the pass comes to what one of its own comes to; buffer and log of one that sits out stay, and its outcome
-- says nothing.
pub record PassedFor (live counts : Bool) (list d o₀ g₀ : List ℕ) (r : Result Measured ItemError) (o g : List ℕ) : Type 0 where
  pub passed : live ≡ true → PassedBy counts list d o₀ r o g
  pub stays : live ≡ false → (o ≡ o₀) × (g ≡ g₀)
