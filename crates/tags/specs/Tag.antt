-- Tags in places: start tags and empty tags, then end tags. Each is read, or at fault in the order of document 01: its own production,
-- sizes. Whether an attribute's name stands twice is only told.
-- What stands at the front of some bytes is in the crate readers, specs/Named.antt.
use Rattle.std.specs.Prelude.{cond, List, ℕ, ◌+◌, leb, length, drop}
use Rattle.std.proofs.Math.Option.{Option, none, some}
use Rattle.utf8.specs.Place.{ends_at}
use Rattle.readers.specs.Named.{Piece, Tag, tag_of, end_tag_of, small_tag, repeated}
use Rattle.tags.specs.declared.Item.{Item}
use Rattle.tags.specs.declared.Item.TheVariants.{Start, Finish, Malformed, TooLarge}

-- ---- start tags and empty tags

abbrev pub start_placed : List ℕ → ℕ → Tag → Item
start_placed d at v = Start (length v.name) (at + length v.head) (ends_at d at v.rest) v.empty (repeated v.attributes)

abbrev pub start_by : List ℕ → ℕ → Option Tag → Item
start_by d at none = Malformed
start_by d at (some v) = cond (small_tag v) (start_placed d at v) TooLarge

unfoldable pub tag_at : List ℕ → ℕ → Item
tag_at d at = start_by d at (tag_of (drop at d))

-- ---- end tags

abbrev pub finish_by : List ℕ → ℕ → Option Piece → Item
finish_by d at none = Malformed
finish_by d at (some p) = cond (leb (length p.name) 255) (Finish (length p.name) (ends_at d at p.rest)) TooLarge

unfoldable pub end_tag_at : List ℕ → ℕ → Item
end_tag_at d at = finish_by d at (end_tag_of (drop at d))
