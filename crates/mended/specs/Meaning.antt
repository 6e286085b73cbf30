-- What is kept of a document of characters, in document 02's words over the grammar: "every whole item before the first fault of kinds 5 to
-- 8", where kind 5 is gone by the cut. That all before a place stand in their places is `Reaches`, what an item is and whether it may stand
-- there are `ItemSays` and `PlaceSays`. proofs/Told.antt shows that `kept_of` keeps just so, and proofs/Only.antt that nothing else does.
use Rattle.std.specs.Prelude.{Bool, true, List, ℕ, ◌≤◌, length}
use Rattle.tags.specs.declared.Item.{Item}
use Rattle.tags.specs.declared.Item.TheVariants.{Text, Nothing}
use Rattle.items.specs.Meaning.{ItemSays}
use Rattle.document.specs.Place.{Opened}
use Rattle.document.specs.Judge.{start_of, nothing}
use Rattle.document.specs.declared.Placement.TheVariants.{Fault, Over}
use Rattle.document.specs.declared.Why.{Why}
use Rattle.demands.specs.Position.{Within, PlaceSays}
use Rattle.demands.specs.Reached.{Reaches}
use Rattle.mend.specs.Kept.{Kept}

-- why nothing more is kept; `last`: no item comes before
pub data Ends (d : List ℕ) (k : Kept) (last : Bool) : Type 0 where
  -- the item there is at fault; where the items run out that is `Nothing`
  fault : (why : Why) (i : Item) → ItemSays last d k.bytes i → PlaceSays d k.bytes k.opened i (Fault why) → Ends d k last
  -- nothing is left, and the document is sound
  over : ItemSays last d k.bytes Nothing → PlaceSays d k.bytes k.opened Nothing Over → Ends d k last
  -- "A text item that touches the end with an element open is dropped"
  half : ItemSays last d k.bytes (Text (length d)) → Within k.opened → Ends d k last

-- k is kept of d
pub record Keeps (d : List ℕ) (k : Kept) : Type 0 where
  pub last : Bool
  pub reached : Reaches d (start_of d) true nothing k.bytes last k.opened
  pub ends : Ends d k last
  -- and no such text is kept
  pub clear : (at : ℕ) (first : Bool) (s : Opened) → Reaches d (start_of d) true nothing at first s → ItemSays first d at (Text (length d))
      → Within s → k.bytes ≤ at
