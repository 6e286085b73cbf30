-- What is laid of a text into its field: the text with its quotes doubled where the field is quoted, as far as the buffer reaches; and
-- whether it holds a byte for which a field is quoted. Then what an item is to a text that is gathered; what joins names, and what is known
-- of those that are open; the text of an element by the place where its tag ends.
use Rattle.std.specs.Prelude.{◌≡◌, Bool, true, false, List, [], ◌∷◌, ℕ, zero, suc, ◌+◌, ◌≤◌, ◌<◌, length, get_or}
use Rattle.tags.specs.Kept.{name_from}
use Rattle.tags.specs.declared.Item.{Item}
use Rattle.tags.specs.declared.Item.TheVariants.{Declaration, Instruction, Comment, Section, Reference, Text, Start, Finish}
use Rattle.tags.specs.declared.Item.TheVariants.{Doctype, Malformed, TooLarge, Nothing}
use Rattle.writer.specs.Wrote.{Wrote}
use Rattle.rows.specs.Field.{special, inner}
use Rattle.rows.specs.Tokens.{text_from}
use Rattle.rows.specs.declared.field.Laid.{Laid}
use Rattle.rows.specs.declared.gather.Part.{Part}
use Rattle.rows.specs.declared.gather.Part.TheVariants.{Opens, Closes, Whole, Aside, Stops}

-- the text s, into the buffer o from the place at on; o' is the buffer then
pub record Lays (q : Bool) (o : List ℕ) (at : ℕ) (s : List ℕ) (r : Laid) (o' : List ℕ) : Type 0 where
  pub wrote : Wrote o at (inner q s) r.to o'
  pub holds : r.special ≡ special s

abbrev pub start_part : Bool → Part
start_part true = Whole
start_part false = Opens

abbrev pub part_of : Item → Part
part_of (Declaration e) = Aside
part_of (Instruction e) = Aside
part_of (Comment e) = Aside
part_of (Section e) = Aside
part_of (Reference c e) = Aside
part_of (Text e) = Aside
part_of (Start n h e m t) = start_part m
part_of (Finish n e) = Closes
part_of Doctype = Stops
part_of Malformed = Stops
part_of TooLarge = Stops
part_of Nothing = Stops

-- what joins a name to those of the k levels above it
abbrev pub joint : ℕ → List ℕ
joint zero = []
joint (suc k) = 0x2F ∷ []

-- The names of the first `level` levels, 64 at most: inside the document, small, and with no byte for which a field is quoted. The last
-- holds of every name that is read: proofs/Plain.antt.
pub record PlainNames (d starts lens : List ℕ) (level : ℕ) : Type 0 where
  pub deep : level ≤ 64
  pub starts_long : length starts ≡ 64
  pub lens_long : length lens ≡ 64
  pub inside : (i : ℕ) → i < level → get_or starts i 0 + get_or lens i 0 ≤ length d
  pub small : (i : ℕ) → i < level → get_or lens i 0 ≤ 255
  pub plain : (i : ℕ) → i < level → special (name_from d (get_or starts i 0) (get_or lens i 0)) ≡ false

-- the text of an element whose tag ends at a place, by whether the tag is empty
abbrev pub element_text : Bool → List ℕ → ℕ → List ℕ
element_text true d end = []
element_text false d end = text_from 0 d end
