-- The attributes' names that are kept by their places, the first 32 of a tag; what is asked of them, and one more name kept.
-- Then an attribute, and the attributes of a tag, in places.
use Rattle.std.specs.Prelude.{◌≡◌, Bool, true, ◌&&◌, ◌||◌, List, [], ◌∷◌, ◌++◌, ℕ, ◌+◌, ◌≤◌, ◌<◌, leb, length, get_or, take, drop}
use Rattle.std.proofs.Math.Option.{Option as Maybe, none, some}
use Rattle.utf8.specs.Place.{Stands}
use Rattle.readers.specs.Named.{Piece, gather, small_all, has, repeated}
use Rattle.std.specs.Prelude.{Option, Some, None}
use Rattle.tags.specs.declared.gather.Attribute.{Attribute}
use Rattle.tags.specs.declared.gather.Attributes.{Attributes}

-- the name of n bytes at the place a of d
abbrev pub name_from : List ℕ → ℕ → ℕ → List ℕ
name_from d a n = take n (drop a d)

-- the names ns, 32 at most, stand in d at the places and lengths kept
pub record Held (d starts lens : List ℕ) (ns : List (List ℕ)) : Type 0 where
  pub few : length ns ≤ 32
  pub starts_long : length starts ≡ 32
  pub lens_long : length lens ≡ 32
  pub inside : (k : ℕ) → k < length ns → get_or starts k 0 + get_or lens k 0 ≤ length d
  pub are : (k : ℕ) → k < length ns → name_from d (get_or starts k 0) (get_or lens k 0) ≡ get_or ns k []

-- of `count` names, the first 32 are kept
pub record KeptOf (d starts lens : List ℕ) (count : ℕ) (ns : List (List ℕ)) : Type 0 where
  pub held : Held d starts lens (take 32 ns)
  pub count_is : count ≡ length ns

-- of some names
pub record Keeps (d starts lens : List ℕ) (count : ℕ) : Type 0 where
  pub names : List (List ℕ)
  pub kept : KeptOf d starts lens count names

-- r tells whether the name is one of those kept, whatever names they are, if there is room for one more
pub record Seen (d starts lens : List ℕ) (count a n : ℕ) (r : Bool) : Type 0 where
  pub is : (ns : List (List ℕ)) → KeptOf d starts lens count ns → r ≡ has (name_from d a n) (take 32 ns)

-- the name is kept if there is room, and whether a name stands twice among those kept is what it was, or r
pub record Noted (d starts lens : List ℕ) (count a n : ℕ) (starts' lens' : List ℕ) (r : Bool) : Type 0 where
  pub held : (ns : List (List ℕ)) → KeptOf d starts lens count ns → Held d starts' lens' (take 32 (ns ++ name_from d a n ∷ []))
  pub twice : (ns : List (List ℕ)) → KeptOf d starts lens count ns
      → repeated (take 32 (ns ++ name_from d a n ∷ [])) ≡ repeated (take 32 ns) || r

-- ---- an attribute: its name's place and length, and its end

pub data AttributeIs (d : List ℕ) (at : ℕ) : Option Attribute → Maybe Piece → Type 0 where
  named : {a : Attribute} {p : Piece} → at < a.end → a.name + a.len ≤ length d → name_from d a.name a.len ≡ p.name
      → Stands d a.end p.rest → AttributeIs d at (Some a) (some p)
  fault : AttributeIs d at None none

-- ---- the attributes of a tag: where they end, whether they are within the sizes, and if so whether a name stands twice

pub record AttributesAre (d : List ℕ) (at : ℕ) (r : Attributes) : Type 0 where
  pub ahead : at ≤ r.end
  pub stands : Stands d r.end (gather 0 (drop at d)).rest
  pub small_is : r.small ≡ leb (length (gather 0 (drop at d)).names) 32 && small_all (gather 0 (drop at d)).names
  pub twice_is : r.small ≡ true → r.twice ≡ repeated (gather 0 (drop at d)).names
