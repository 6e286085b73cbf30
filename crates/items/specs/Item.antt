-- The item at a place. In order: the kind of an item, told by its first bytes; the item read, or its fault in the order of document 01: a
-- document type, its own production, sizes. Tags in places are in the crate tags, specs/Tag.antt.
use Rattle.std.specs.Prelude.{Bool, cond, ◌&&◌, List, [], ◌∷◌, ℕ, drop, Option, Some, None}
use Rattle.std.proofs.Math.Option.{Option as Maybe, none, some}
use Rattle.xml.specs.Notation.{bytes}
use Rattle.xml.specs.Character.{begins, starts}
use Rattle.xml.specs.Productions.{is_space}
use Rattle.utf8.specs.Place.{ends_at}
use Rattle.readers.specs.Plain.{text_of, comment_of, section_of}
use Rattle.readers.specs.Value.{reference_of}
use Rattle.readers.specs.Named.{instruction_of, declaration_of}
use Rattle.references.specs.Say.{saying_at}
use Rattle.tags.specs.Tag.{tag_at, end_tag_at}
use Rattle.tags.specs.declared.Item.{Item}
use Rattle.tags.specs.declared.Item.TheVariants.{Declaration, Instruction, Comment, Section, Reference, Text}
use Rattle.tags.specs.declared.Item.TheVariants.{Doctype, Malformed, Nothing}

-- ---- the kinds, told by their first bytes

pub data Kind : Type 0 where
  declaration instruction comment section doctype finish start reference text nothing : Kind

-- `<?xml` and white space
unfoldable pub declares : List ℕ → Bool
declares s = begins (bytes "<?xml") s && starts is_space (drop 5 s)

-- the first of the kinds whose bytes stand at the front, in the order of document 01
abbrev pub first_of : List (Bool × Kind) → Kind → Kind
first_of [] k = k
first_of (x ∷ xs) k = cond x.0 x.1 (first_of xs k)

abbrev pub text_or_nothing : List ℕ → Kind
text_or_nothing [] = nothing
text_or_nothing (b ∷ s) = text

-- the declaration is told as first item only
unfoldable pub kind_of : Bool → List ℕ → Kind
kind_of first s =
    first_of
    ((first && declares s, declaration)
    ∷ (begins (bytes "<?") s, instruction)
    ∷ (begins (bytes "<!--") s, comment)
    ∷ (begins (bytes "<![CDATA[") s, section)
    ∷ (begins (bytes "<!DOCTYPE") s, doctype)
    ∷ (begins (bytes "</") s, finish)
    ∷ (begins (bytes "<") s, start)
    ∷ (begins (bytes "&") s, reference)
    ∷ [])
    (text_or_nothing s)

-- ---- the item

-- an item of the kind f that leaves t, or a broken production
abbrev pub item_by : (ℕ → Item) → List ℕ → ℕ → Maybe (List ℕ) → Item
item_by f d at none = Malformed
item_by f d at (some t) = f (ends_at d at t)

-- a reference with the character that it says
abbrev pub reference_item : Option (ℕ × ℕ) → Item
reference_item (Some (c, e)) = Reference c e
reference_item None = Malformed

abbrev pub item_of : Kind → List ℕ → ℕ → Item
item_of declaration d at = item_by Declaration d at (declaration_of (drop at d))
item_of instruction d at = item_by Instruction d at (instruction_of (drop at d))
item_of comment d at = item_by Comment d at (comment_of (drop at d))
item_of section d at = item_by Section d at (section_of (drop at d))
item_of doctype d at = Doctype
item_of finish d at = end_tag_at d at
item_of start d at = tag_at d at
item_of reference d at = reference_item (saying_at d at (reference_of (drop at d)))
item_of text d at = item_by Text d at (text_of (drop at d))
item_of nothing d at = Nothing

unfoldable pub item_at : Bool → List ℕ → ℕ → Item
item_at first d at = item_of (kind_of first (drop at d)) d at
