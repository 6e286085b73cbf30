-- What each answer says of the item at a place, in document 01's words: the first bytes tell the kind, the item keeps its production, and
-- sizes come after it. In order: sizes; what a start or empty tag and an end tag hold, in places; a broken production and an item over a
-- size, by kind; the item. proofs/Meaning.antt shows that the definitions which the contracts cite give the one answer that says so.
use Rattle.std.specs.Prelude.{◌≡◌, Bool, true, false, List, ℕ, ◌+◌, ◌≤◌, length, drop, Some, None}
use Rattle.xml.specs.Productions.{XMLDecl, PI, Comment as CommentRule, CDSect}
use Rattle.xml.specs.Document.{Unique, AllShort}
use Rattle.utf8.specs.Place.{Stands}
use Rattle.readers.specs.Named.{Piece, Tag}
use Rattle.readers.specs.Meaning.{EndTagIs, TagIs}
use Rattle.readers.specs.Says.{ReadingSays, TextSays}
use Rattle.references.specs.Meaning.{ReferenceSays}
use Rattle.tags.specs.declared.Item.{Item}
use Rattle.tags.specs.declared.Item.TheVariants.{Declaration, Instruction, Comment, Section, Reference, Text, Start, Finish}
use Rattle.tags.specs.declared.Item.TheVariants.{Doctype, Malformed, TooLarge, Nothing}
use Rattle.items.specs.Item.{Kind, declaration, instruction, comment, section, doctype, finish, start, reference, text, nothing}
use Rattle.items.specs.Item.{kind_of}

-- ---- sizes: names of 255 bytes, 32 attributes

abbrev pub Short : List ℕ → Type 0
Short n = length n ≤ 255

pub record Small (v : Tag) : Type 0 where
  pub name : Short v.name
  pub few : length v.attributes ≤ 32
  pub attributes : AllShort v.attributes

-- ---- tags, in places

-- whether a name stands twice
abbrev pub Twice : Bool → List (List ℕ) → Type 0
Twice false ns = Unique ns
Twice true ns = Unique ns → ⊥

-- a tag stands at the place at; its name has n bytes, its head ends at h, the tag at e
pub record StartIs (d : List ℕ) (at n h e : ℕ) (empty twice : Bool) : Type 0 where
  pub tag : Tag
  pub stands : TagIs (drop at d) tag
  pub small : Small tag
  pub name_is : n ≡ length tag.name
  pub head_is : h ≡ at + length tag.head
  pub ends : Stands d e tag.rest
  pub empty_is : empty ≡ tag.empty
  pub twice_is : Twice twice tag.attributes

-- an end tag stands at the place at; its name has n bytes, and it ends at e
pub record FinishIs (d : List ℕ) (at n e : ℕ) : Type 0 where
  pub tag : Piece
  pub stands : EndTagIs (drop at d) tag
  pub small : Short tag.name
  pub name_is : n ≡ length tag.name
  pub ends : Stands d e tag.rest

-- ---- faults, by the kind that the first bytes tell

-- the kind's production reads nothing at the place
abbrev pub Broken : Kind → List ℕ → ℕ → Type 0
Broken declaration d at = ReadingSays XMLDecl d at None
Broken instruction d at = ReadingSays PI d at None
Broken comment d at = ReadingSays CommentRule d at None
Broken section d at = ReadingSays CDSect d at None
Broken doctype d at = ⊥
Broken finish d at = (v : Piece) → EndTagIs (drop at d) v → ⊥
Broken start d at = (v : Tag) → TagIs (drop at d) v → ⊥
Broken reference d at = ReferenceSays d at None
Broken text d at = TextSays d at None
Broken nothing d at = ⊥

-- the production is kept, and a size is not
pub data Large (d : List ℕ) (at : ℕ) : Kind → Type 0 where
  large_finish : {v : Piece} → EndTagIs (drop at d) v → (Short v.name → ⊥) → Large d at finish
  large_start : {v : Tag} → TagIs (drop at d) v → (Small v → ⊥) → Large d at start

-- ---- the item

-- of the kind k
abbrev pub KindSays : Kind → List ℕ → ℕ → Item → Type 0
KindSays k d at (Declaration e) = (k ≡ declaration) × ReadingSays XMLDecl d at (Some e)
KindSays k d at (Instruction e) = (k ≡ instruction) × ReadingSays PI d at (Some e)
KindSays k d at (Comment e) = (k ≡ comment) × ReadingSays CommentRule d at (Some e)
KindSays k d at (Section e) = (k ≡ section) × ReadingSays CDSect d at (Some e)
KindSays k d at (Finish n e) = (k ≡ finish) × FinishIs d at n e
KindSays k d at (Start n h e empty twice) = (k ≡ start) × StartIs d at n h e empty twice
KindSays k d at (Reference c e) = (k ≡ reference) × ReferenceSays d at (Some (c, e))
KindSays k d at (Text e) = (k ≡ text) × TextSays d at (Some e)
KindSays k d at Doctype = k ≡ doctype
KindSays k d at Malformed = Broken k d at
KindSays k d at TooLarge = Large d at k
KindSays k d at Nothing = k ≡ nothing

abbrev pub ItemSays : Bool → List ℕ → ℕ → Item → Type 0
ItemSays first d at = KindSays (kind_of first (drop at d)) d at
