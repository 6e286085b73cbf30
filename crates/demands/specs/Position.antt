-- Whether an item may stand where it stands, or why it is at fault, in document 01's words. In order: what is open; well-formed if
-- something holds; a tag that opens an element; the end of the items; the item in its place. What an item itself is says `ItemSays` of the
-- crate items.
use Rattle.std.specs.Prelude.{◌≡◌, Bool, true, false, List, [], ◌∷◌, ◌⊎◌, ℕ, ◌+◌, ◌≤◌, ◌<◌, length, drop}
use Rattle.xml.specs.Notation.{Reads}
use Rattle.xml.specs.Productions.{S}
use Rattle.tags.specs.Kept.{name_from}
use Rattle.tags.specs.declared.Item.{Item}
use Rattle.tags.specs.declared.Item.TheVariants.{Declaration, Instruction, Comment, Section, Reference, Text, Start, Finish}
use Rattle.tags.specs.declared.Item.TheVariants.{Doctype, Malformed, TooLarge, Nothing}
use Rattle.document.specs.Place.{Opened}
use Rattle.document.specs.declared.Placement.{Placement}
use Rattle.document.specs.declared.Placement.TheVariants.{Fine, Fault, Over}
use Rattle.document.specs.declared.Why.{Why}
use Rattle.document.specs.declared.Why.TheVariants.{Doctype as ADoctype, Malformed as NotFormed, TooLarge as OverSize}

-- outside the root, before it or after it; and with an element open
abbrev pub Outside : Opened → Type 0
Outside s = s.names ≡ []

abbrev pub Within : Opened → Type 0
Within s = s.names ≡ [] → ⊥

-- the item may stand there if A holds, and else it is not well-formed (7)
abbrev pub Formed : Type 0 → Placement → Type 0
Formed A Fine = A
Formed A (Fault why) = (A → ⊥) × (why ≡ NotFormed)
Formed A Over = ⊥

-- it is at fault wherever it stands
abbrev pub Faulty : Why → Placement → Type 0
Faulty w Fine = ⊥
Faulty w (Fault why) = why ≡ w
Faulty w Over = ⊥

-- "Depth 64 (the root is 1)" (8) comes before "One root" and "No attribute name twice in a tag" (7)
abbrev pub StartSays : Opened → Bool → Placement → Type 0
StartSays s twice Fine = (length s.names < 64) × (twice ≡ false) × (Outside s → s.rooted ≡ false)
StartSays s twice (Fault why) =
    ((64 ≤ length s.names) × (why ≡ OverSize))
    ⊎ ((length s.names < 64) × ((twice ≡ true) ⊎ (Outside s × (s.rooted ≡ true))) × (why ≡ NotFormed))
StartSays s twice Over = ⊥

-- "If the items run out with an element open, or without a root, the answer is 7"
abbrev pub EndSays : Opened → Placement → Type 0
EndSays s Fine = ⊥
EndSays s (Fault why) = (Within s ⊎ (s.rooted ≡ false)) × (why ≡ NotFormed)
EndSays s Over = Outside s × (s.rooted ≡ true)

-- "Outside it only comments, instructions and white-space text"; "End tags match"; `<!DOCTYPE` (6), its own production (7), sizes (8)
abbrev pub PlaceSays : List ℕ → ℕ → Opened → Item → Placement → Type 0
PlaceSays d at s (Declaration e) = Formed (Unit {0})
PlaceSays d at s (Instruction e) = Formed (Unit {0})
PlaceSays d at s (Comment e) = Formed (Unit {0})
PlaceSays d at s (Section e) = Formed (Within s)
PlaceSays d at s (Reference c e) = Formed (Within s)
PlaceSays d at s (Text e) = Formed (Within s ⊎ Reads S (drop at d) (drop e d))
PlaceSays d at s (Start n h e m twice) = StartSays s twice
PlaceSays d at s (Finish n e) = Formed ((ns : List (List ℕ)) × (s.names ≡ name_from d (at + 2) n ∷ ns))
PlaceSays d at s Doctype = Faulty ADoctype
PlaceSays d at s Malformed = Faulty NotFormed
PlaceSays d at s TooLarge = Faulty OverSize
PlaceSays d at s Nothing = EndSays s
