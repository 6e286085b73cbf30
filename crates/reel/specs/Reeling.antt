-- The items from the spot s on are read: what is known after some of them, where the names of the open elements are kept by level; and why
-- no more are read.
use Rattle.std.specs.Prelude.{◌≡◌, Bool, List, ℕ, ◌+◌, ◌≤◌, ◌<◌, length}
use Rattle.document.specs.Place.{placement}
use Rattle.document.specs.Levels.{Names}
use Rattle.document.specs.declared.Open.{Open}
use Rattle.document.specs.declared.Placement.{Placement}
use Rattle.document.specs.declared.Placement.TheVariants as placed
use Rattle.passes.specs.Opens.{Opens}
use Rattle.tape.specs.Taped.{Spot, spot_of, item_of, behind, tags_in, Taped}
use Rattle.reel.specs.declared.Stop.{Stop}
use Rattle.reel.specs.declared.Stop.TheVariants.{Full, Over, Fault}

-- The tape has the tags among them, and there was room for one before each; the spot reached is the one behind them. Each item is a byte
-- long at least.
pub record Reeling (d : List ℕ) (s : Spot) (starts lens tape : List ℕ) (opened : Open) (at : ℕ) (first : Bool) (items tags : ℕ) : Type 0
  where
    pub names : Names d starts lens opened
    pub opens : Opens d starts lens opened.level.0
    pub within : at ≤ length d
    pub spot : spot_of d starts lens opened at first ≡ behind d s items
    pub taped : Taped d tape s items tags
    pub room : (k : ℕ) → k < items → tags_in d s k < 4096
    pub ahead : s.at + items ≤ at
    pub fewer : tags ≤ items
    pub few : tags ≤ 4096
    pub long : length tape ≡ 20480

-- whether the item at a spot may stand there
abbrev pub placed_at : List ℕ → Spot → Placement
placed_at d s = placement d s.at (item_of d s) s.opened

-- after so many items and tags: there is no more room; or there is, and the next item is none or at fault
abbrev pub Stopped : List ℕ → Spot → ℕ → ℕ → Stop → Type 0
Stopped d s items tags Full = tags ≡ 4096
Stopped d s items tags Over = (tags < 4096) × (placed_at d (behind d s items) ≡ placed.Over)
Stopped d s items tags (Fault why) = (tags < 4096) × (placed_at d (behind d s items) ≡ placed.Fault why)
