-- The items of a tape: from a spot on, each of so many items may stand in the document where the ones before it end, and each of the tags
-- among them has its entry, in their order.
use Rattle.std.specs.Prelude.{◌≡◌, Bool, false, List, ℕ, zero, suc, ◌+◌, ◌<◌}
use Rattle.tags.specs.declared.Item.{Item}
use Rattle.items.specs.Item.{item_at}
use Rattle.document.specs.Place.{Opened, placement, after_item, end_of}
use Rattle.document.specs.Levels.{opened_of}
use Rattle.document.specs.declared.Open.{Open}
use Rattle.document.specs.declared.Placement.TheVariants.{Fine}
use Rattle.tape.specs.Tape.{entry_at, begin_at, tags_of, image_of}

-- where an item begins, whether it is the document's first, and what is open there
pub record Spot : Type 0 where
  pub at : ℕ
  pub first : Bool
  pub opened : Opened

-- by names kept by level
abbrev pub spot_of : List ℕ → List ℕ → List ℕ → Open → ℕ → Bool → Spot
spot_of d starts lens o at first = record { at = at; first = first; opened = opened_of d starts lens o }

abbrev pub item_of : List ℕ → Spot → Item
item_of d s = item_at s.first d s.at

abbrev pub next_of : List ℕ → Spot → Spot
next_of d s =
    record { at = end_of s.at (item_of d s); first = false; opened = after_item d s.at (item_of d s) s.opened }

-- behind k items
abbrev pub behind : List ℕ → Spot → ℕ → Spot
behind d s zero = s
behind d s (suc k) = next_of d (behind d s k)

-- how many tags are among them
abbrev pub tags_in : List ℕ → Spot → ℕ → ℕ
tags_in d s zero = 0
tags_in d s (suc k) = tags_in d s k + tags_of (item_of d (behind d s k))

pub record Taped (d t : List ℕ) (s : Spot) (items tags : ℕ) : Type 0 where
  pub fine : (k : ℕ) → k < items → placement d (behind d s k).at (item_of d (behind d s k)) (behind d s k).opened ≡ Fine
  pub count : tags ≡ tags_in d s items
  pub begins : (k : ℕ) → k < items → tags_of (item_of d (behind d s k)) ≡ 1 → begin_at t (tags_in d s k) ≡ (behind d s k).at
  pub kept : (k : ℕ) → k < items → tags_of (item_of d (behind d s k)) ≡ 1
      → entry_at t (tags_in d s k) ≡ image_of (item_of d (behind d s k))
