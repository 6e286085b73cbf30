-- The entries of a tape: the tag that four numbers say, that of an entry and where it begins, the tape after an item is put there, and what
-- comes back of it: the tag. Whether an attribute stands twice is not kept. An item that is no tag has no entry.
use Rattle.std.specs.Prelude.{Bool, true, false, List, ℕ, zero, suc, ◌+◌, ◌*◌, get_or, set}
use Rattle.tags.specs.declared.Item.{Item}
use Rattle.tags.specs.declared.Item.TheVariants.{Declaration, Instruction, Comment, Section, Reference, Text, Start, Finish}
use Rattle.tags.specs.declared.Item.TheVariants.{Doctype, Malformed, TooLarge, Nothing}

-- kind, end, name and head
unfoldable pub shape : ℕ → ℕ → ℕ → ℕ → Item
shape zero e n h = Finish n e
shape (suc zero) e n h = Start n h e false false
shape (suc (suc k)) e n h = Start n h e true false

unfoldable pub entry_at : List ℕ → ℕ → Item
entry_at t k = shape (get_or t (k * 5) 0) (get_or t (k * 5 + 2) 0) (get_or t (k * 5 + 3) 0) (get_or t (k * 5 + 4) 0)

unfoldable pub begin_at : List ℕ → ℕ → ℕ
begin_at t k = get_or t (k * 5 + 1) 0

abbrev pub tag_kind : Bool → ℕ
tag_kind true = 2
tag_kind false = 1

-- five numbers from the place i on
abbrev pub stored : List ℕ → ℕ → ℕ → ℕ → ℕ → ℕ → ℕ → List ℕ
stored t i a b c d e = set (set (set (set (set t i a) (i + 1) b) (i + 2) c) (i + 3) d) (i + 4) e

-- how many tags an item is, and so how many entries it has
abbrev pub tags_of : Item → ℕ
tags_of (Declaration e) = 0
tags_of (Instruction e) = 0
tags_of (Comment e) = 0
tags_of (Section e) = 0
tags_of (Reference c e) = 0
tags_of (Text e) = 0
tags_of (Start n h e m w) = 1
tags_of (Finish n e) = 1
tags_of Doctype = 0
tags_of Malformed = 0
tags_of TooLarge = 0
tags_of Nothing = 0

-- the tape after the item at the place `at` is put at entry k
abbrev pub put_at : List ℕ → ℕ → ℕ → Item → List ℕ
put_at t k at (Declaration e) = t
put_at t k at (Instruction e) = t
put_at t k at (Comment e) = t
put_at t k at (Section e) = t
put_at t k at (Reference c e) = t
put_at t k at (Text e) = t
put_at t k at (Start n h e m w) = stored t (k * 5) (tag_kind m) at e n h
put_at t k at (Finish n e) = stored t (k * 5) 0 at e n 0
put_at t k at Doctype = t
put_at t k at Malformed = t
put_at t k at TooLarge = t
put_at t k at Nothing = t

-- what comes back of a tag
abbrev pub image_of : Item → Item
image_of (Declaration e) = Declaration e
image_of (Instruction e) = Instruction e
image_of (Comment e) = Comment e
image_of (Section e) = Section e
image_of (Reference c e) = Reference c e
image_of (Text e) = Text e
image_of (Start n h e m w) = Start n h e m false
image_of (Finish n e) = Finish n e
image_of Doctype = Doctype
image_of Malformed = Malformed
image_of TooLarge = TooLarge
image_of Nothing = Nothing
