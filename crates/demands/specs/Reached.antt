-- How far the items of a document stand in their places: from a place on, with what is open there, up to a place, with what is open then.
-- So "the first item at fault" is said: all before it stand in their places, and it does not.
use Rattle.std.specs.Prelude.{Bool, true, false, List, ℕ}
use Rattle.tags.specs.declared.Item.{Item}
use Rattle.items.specs.Meaning.{ItemSays}
use Rattle.document.specs.Place.{Opened, after_item, end_of}
use Rattle.document.specs.Judge.{start_of, nothing}
use Rattle.document.specs.declared.Placement.TheVariants.{Fine, Fault}
use Rattle.document.specs.declared.Why.{Why}
use Rattle.demands.specs.Position.{PlaceSays}

-- `first`: no item comes before
pub data Reaches (d : List ℕ) : ℕ → Bool → Opened → ℕ → Bool → Opened → Type 0 where
  here : {at : ℕ} {first : Bool} {s : Opened} → Reaches d at first s at first s
  next : {at : ℕ} {first : Bool} {s : Opened} {o : ℕ} {last : Bool} {t : Opened} (i : Item) → ItemSays first d at i
      → PlaceSays d at s i Fine → Reaches d (end_of at i) false (after_item d at i s) o last t → Reaches d at first s o last t

-- the item at o is the first at fault, for this reason; past the last item that is `Nothing`
pub record FirstFault (d : List ℕ) (why : Why) (o : ℕ) : Type 0 where
  pub first : Bool
  pub opened : Opened
  pub reached : Reaches d (start_of d) true nothing o first opened
  pub item : Item
  pub says : ItemSays first d o item
  pub fault : PlaceSays d o opened item (Fault why)
