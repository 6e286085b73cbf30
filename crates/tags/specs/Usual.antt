-- What is told of names, values, attributes and tags that stand as they mostly do. Where it is told, it is what is read; else nothing is
-- said. Private functions cite these.
use Rattle.std.specs.Prelude.{◌≡◌, Bool, List, ℕ, ◌<◌, length, drop, Option, Some}
use Rattle.utf8.specs.Place.{ends_at}
use Rattle.blocks.specs.Block.{until}
use Rattle.chars.specs.Name.{name_at}
use Rattle.readers.specs.Plain.{is_mark}
use Rattle.readers.specs.Named.{attribute_of}
use Rattle.tags.specs.Tag.{tag_at}
use Rattle.tags.specs.Kept.{AttributeIs}
use Rattle.tags.specs.declared.gather.Attribute.{Attribute}
use Rattle.tags.specs.declared.Item.{Item}
use Rattle.tags.specs.declared.Item.TheVariants.{Start}

-- where the name at the place `at` of d ends, unless it is 0
pub record ToldName (d : List ℕ) (at r : ℕ) : Type 0 where
  pub is : 0 < r → Some r ≡ name_at d at

-- the first place from `at` on with `<`, `&` or q, unless it is the end
pub record ToldMark (q : ℕ) (d : List ℕ) (at r : ℕ) : Type 0 where
  pub is : r < length d → r ≡ ends_at d at (until (is_mark q) (drop at d))

-- an attribute, unless there is none
pub record ToldAttribute (d : List ℕ) (at : ℕ) (r : Option Attribute) : Type 0 where
  pub is : (a : Attribute) → r ≡ Some a → AttributeIs d at r (attribute_of (drop at d))

-- a start tag or empty tag, unless it is something else
pub record ToldTag (d : List ℕ) (at : ℕ) (r : Item) : Type 0 where
  pub is : (name head end : ℕ) (empty twice : Bool) → r ≡ Start name head end empty twice → r ≡ tag_at d at
