-- An item that was read stands inside the document: its end is past its beginning, and its name and head stand before its end.
-- Of a fault, and past the end, nothing is said.
use Rattle.std.specs.Prelude.{ℕ, ◌+◌, ◌≤◌, ◌<◌, List, length}
use Rattle.tags.specs.declared.Item.{Item}
use Rattle.tags.specs.declared.Item.TheVariants.{Declaration, Instruction, Comment, Section, Reference, Text, Start, Finish}
use Rattle.tags.specs.declared.Item.TheVariants.{Doctype, Malformed, TooLarge, Nothing}

abbrev pub Ahead : List ℕ → ℕ → ℕ → Type 0
Ahead d at e = (at < e) × (e ≤ length d)

abbrev pub Inside : List ℕ → ℕ → Item → Type 0
Inside d at (Declaration e) = Ahead d at e
Inside d at (Instruction e) = Ahead d at e
Inside d at (Comment e) = Ahead d at e
Inside d at (Section e) = Ahead d at e
Inside d at (Reference c e) = Ahead d at e
Inside d at (Text e) = Ahead d at e
Inside d at (Start n h e m t) = (at + 1 + n ≤ h) × (h < e) × (e ≤ length d)
Inside d at (Finish n e) = (at + 2 + n < e) × (e ≤ length d)
Inside d at Doctype = Unit {0}
Inside d at Malformed = Unit {0}
Inside d at TooLarge = Unit {0}
Inside d at Nothing = Unit {0}
