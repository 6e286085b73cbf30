-- An item in its place: whether it may stand there, or why it is at fault, in document 01's order; and what is open after it. The names of
-- open elements stand innermost first.
use Rattle.std.specs.Prelude.{Bool, true, false, cond, not, ◌&&◌, ◌||◌, List, [], ◌∷◌, ℕ, ◌+◌, leb, length}
use Rattle.xml.specs.Productions.{same}
use Rattle.chars.specs.Space.{space_end}
use Rattle.tags.specs.Kept.{name_from}
use Rattle.tags.specs.declared.Item.{Item}
use Rattle.tags.specs.declared.Item.TheVariants.{Declaration, Instruction, Comment, Section, Reference, Text, Start, Finish}
use Rattle.tags.specs.declared.Item.TheVariants.{Doctype, Malformed, TooLarge, Nothing}
use Rattle.document.specs.declared.Placement.{Placement}
use Rattle.document.specs.declared.Placement.TheVariants.{Fine, Fault, Over}
use Rattle.document.specs.declared.Why.TheVariants.{Doctype as ADoctype, Malformed as NotFormed, TooLarge as OverSize}

-- the names of the open elements, and whether a root was there
pub record Opened : Type 0 where
  pub names : List (List ℕ)
  pub rooted : Bool

abbrev pub some : List (List ℕ) → Bool
some [] = false
some (n ∷ ns) = true

abbrev pub inside : Opened → Bool
inside s = some s.names

abbrev pub outside : Opened → Bool
outside s = not (inside s)

-- ---- whether an item may stand where it stands

-- well-formed if the test holds
abbrev pub formed : Bool → Placement
formed true = Fine
formed false = Fault NotFormed

-- the text from at to e is white space
unfoldable pub blank : List ℕ → ℕ → ℕ → Bool
blank d at e = leb e (space_end d at)

-- "Depth 64"; "No attribute name twice in a tag"; "One root"
abbrev pub start_placement : Bool → Opened → Placement
start_placement twice s =
    cond (leb 64 (length s.names)) (Fault OverSize) (formed (not (twice || (s.rooted && outside s))))

-- "End tags match"
abbrev pub closes : List ℕ → List (List ℕ) → Bool
closes n [] = false
closes n (m ∷ ns) = same n m

-- "If the items run out with an element open, or without a root, the answer is 7"
abbrev pub over_placement : Opened → Placement
over_placement s = cond (s.rooted && outside s) Over (Fault NotFormed)

abbrev pub placement : List ℕ → ℕ → Item → Opened → Placement
placement d at (Declaration e) s = Fine
placement d at (Instruction e) s = Fine
placement d at (Comment e) s = Fine
placement d at (Section e) s = formed (inside s)
placement d at (Reference c e) s = formed (inside s)
placement d at (Text e) s = formed (inside s || blank d at e)
placement d at (Start n h e m t) s = start_placement t s
placement d at (Finish n e) s = formed (closes (name_from d (at + 2) n) s.names)
placement d at Doctype s = Fault ADoctype
placement d at Malformed s = Fault NotFormed
placement d at TooLarge s = Fault OverSize
placement d at Nothing s = over_placement s

-- ---- what is open after it, and where it ends

abbrev pub opens : Bool → List ℕ → List (List ℕ) → List (List ℕ)
opens true n ns = ns
opens false n ns = n ∷ ns

abbrev pub closed : List (List ℕ) → List (List ℕ)
closed [] = []
closed (n ∷ ns) = ns

abbrev pub after_item : List ℕ → ℕ → Item → Opened → Opened
after_item d at (Declaration e) s = s
after_item d at (Instruction e) s = s
after_item d at (Comment e) s = s
after_item d at (Section e) s = s
after_item d at (Reference c e) s = s
after_item d at (Text e) s = s
after_item d at (Start n h e m t) s = record { names = opens m (name_from d (at + 1) n) s.names; rooted = true }
after_item d at (Finish n e) s = record { names = closed s.names; rooted = s.rooted }
after_item d at Doctype s = s
after_item d at Malformed s = s
after_item d at TooLarge s = s
after_item d at Nothing s = s

-- a fault ends where it begins
abbrev pub end_of : ℕ → Item → ℕ
end_of at (Declaration e) = e
end_of at (Instruction e) = e
end_of at (Comment e) = e
end_of at (Section e) = e
end_of at (Reference c e) = e
end_of at (Text e) = e
end_of at (Start n h e m t) = e
end_of at (Finish n e) = e
end_of at Doctype = at
end_of at Malformed = at
end_of at TooLarge = at
end_of at Nothing = at
