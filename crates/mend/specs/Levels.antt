-- What the code asks of an item and a level: whether the item is a text that touches the end, of n bytes,
-- with an element open.
use Rattle.std.specs.Prelude.{Bool, false, ◌&&◌, ℕ, leb, ltb}
use Rattle.tags.specs.declared.Item.{Item}
use Rattle.tags.specs.declared.Item.TheVariants.{Declaration, Instruction, Comment, Section, Reference, Text, Start, Finish}
use Rattle.tags.specs.declared.Item.TheVariants.{Doctype, Malformed, TooLarge, Nothing}

abbrev pub halved_by : ℕ → Item → ℕ → Bool
halved_by n (Declaration e) level = false
halved_by n (Instruction e) level = false
halved_by n (Comment e) level = false
halved_by n (Section e) level = false
halved_by n (Reference c e) level = false
halved_by n (Text e) level = ltb 0 level && leb n e
halved_by n (Start m h e b t) level = false
halved_by n (Finish m e) level = false
halved_by n Doctype level = false
halved_by n Malformed level = false
halved_by n TooLarge level = false
halved_by n Nothing level = false
