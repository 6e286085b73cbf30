-- The forest of a document. In order: its tokens, one for each item and one more at an empty tag, whose end is of no bytes; the forest that
-- grows of tokens, from the last one back; the tokens of a forest. The items after a fault are not looked at.
use Rattle.std.specs.Prelude.{Bool, true, false, List, [], ◌∷◌, ℕ, zero, suc, ◌+◌, ◌-◌, length}
use Rattle.xml.specs.Forest.{Tag, Forest, nil, other, elem}
use Rattle.items.specs.Item.{item_at}
use Rattle.tags.specs.Kept.{name_from}
use Rattle.tags.specs.declared.Item.{Item}
use Rattle.tags.specs.declared.Item.TheVariants.{Declaration, Instruction, Comment, Section, Reference, Text, Start, Finish}
use Rattle.tags.specs.declared.Item.TheVariants.{Doctype, Malformed, TooLarge, Nothing}
use Rattle.document.specs.Place.{end_of}
use Rattle.document.specs.Judge.{start_of}

-- the bytes of d from the place a up to the place e
abbrev pub part : List ℕ → ℕ → ℕ → List ℕ
part d a e = name_from d a (e - a)

pub data Token : Type 0 where
  start : (tag : Tag) → Token
  finish : (raw : List ℕ) → Token
  aside : (raw : List ℕ) → Token

-- ---- the tokens of a document

-- the tag of a start or empty tag at a place: its name has n bytes, its head ends at h, the tag at e
abbrev pub tag_of : List ℕ → ℕ → ℕ → ℕ → ℕ → Tag
tag_of d at n h e = record { name = name_from d (at + 1) n; head = part d at h; tail = part d h e }

abbrev pub started : Bool → Tag → List Token → List Token
started true t ts = start t ∷ finish [] ∷ ts
started false t ts = start t ∷ ts

-- those of the item at a place, before others
abbrev pub item_tokens : List ℕ → ℕ → Item → List Token → List Token
item_tokens d at (Declaration e) ts = aside (part d at e) ∷ ts
item_tokens d at (Instruction e) ts = aside (part d at e) ∷ ts
item_tokens d at (Comment e) ts = aside (part d at e) ∷ ts
item_tokens d at (Section e) ts = aside (part d at e) ∷ ts
item_tokens d at (Reference c e) ts = aside (part d at e) ∷ ts
item_tokens d at (Text e) ts = aside (part d at e) ∷ ts
item_tokens d at (Start n h e m t) ts = started m (tag_of d at n h e) ts
item_tokens d at (Finish n e) ts = finish (part d at e) ∷ ts
item_tokens d at Doctype ts = []
item_tokens d at Malformed ts = []
item_tokens d at TooLarge ts = []
item_tokens d at Nothing ts = []

-- from a place on; the first number is more than the items there can be
unfoldable pub tokens_from : ℕ → List ℕ → ℕ → Bool → List Token
tokens_from zero d at first = []
tokens_from (suc k) d at first =
    let i = item_at first d at in
    item_tokens d at i (tokens_from k d (end_of at i) false)

unfoldable pub tokens_of : List ℕ → List Token
tokens_of d = tokens_from (suc (length d)) d (start_of d) true

-- ---- the forest of tokens

-- what has grown: the forest at the front, and for each end tag that has no start tag yet its bytes and the forest after it
pub record Growth : Type 0 where
  pub front : Forest
  pub after : List (List ℕ × Forest)

-- a start tag takes the forest at the front for its element's items
abbrev pub rooted : Tag → Forest → List (List ℕ × Forest) → Growth
rooted t f [] = record { front = elem t f [] nil; after = [] }
rooted t f (x ∷ xs) = record { front = elem t f x.0 x.1; after = xs }

abbrev pub grow : Token → Growth → Growth
grow (start t) g = rooted t g.front g.after
grow (finish raw) g = record { front = nil; after = (raw, g.front) ∷ g.after }
grow (aside raw) g = record { front = other raw g.front; after = g.after }

abbrev pub grown : List Token → Growth
grown [] = record { front = nil; after = [] }
grown (t ∷ ts) = grow t (grown ts)

unfoldable pub forest_of : List ℕ → Forest
forest_of d = (grown (tokens_of d)).front

-- ---- the tokens of a forest, before others

abbrev pub tokens : Forest → List Token → List Token
tokens nil ts = ts
tokens (other raw rest) ts = aside raw ∷ tokens rest ts
tokens (elem t kids close rest) ts = start t ∷ tokens kids (finish close ∷ tokens rest ts)
