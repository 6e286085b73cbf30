-- What is known of the names of the open elements, by level: a name of 255 bytes at most stands at each of the places that are kept, inside
-- the document. And what is told of an item that mostly stands inside an element.
use Rattle.std.specs.Prelude.{◌≡◌, Bool, List, ℕ, ◌+◌, ◌≤◌, ◌<◌, length, get_or}
use Rattle.tags.specs.declared.Item.{Item}
use Rattle.tags.specs.declared.Item.TheVariants.{Nothing}
use Rattle.items.specs.Item.{item_at}
use Rattle.document.specs.Place.{Opened, placement}
use Rattle.document.specs.declared.Placement.TheVariants.{Fine}
use Rattle.quick.specs.End.{NamedAt}

pub record Opens (d starts lens : List ℕ) (level : ℕ) : Type 0 where
  pub named : (i : ℕ) → i < level → NamedAt d (get_or starts i 0) (get_or lens i 0)
  pub inside : (i : ℕ) → i < level → get_or starts i 0 + get_or lens i 0 ≤ length d

-- What is told of the item at the place `at`, where s is what is open: nothing; or the item r, which is that one whether it is the first or
-- not, and may stand there.
pub data Usual (d : List ℕ) (at : ℕ) (s : Opened) (r : Item) : Type 0 where
  untold : r ≡ Nothing → Usual d at s r
  told : ((first : Bool) → r ≡ item_at first d at) → Fine ≡ placement d at r s → Usual d at s r
