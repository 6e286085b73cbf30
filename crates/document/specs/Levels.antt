-- What is open, as the code has it: a level, and names by level, each by its place and length.
-- Then what an item makes of it.
use Rattle.std.specs.Prelude.{◌≡◌, Bool, true, false, cond, not, ◌&&◌, ◌||◌, List, [], ◌∷◌, ℕ, zero, suc, ◌+◌, ◌-◌, ◌≤◌, ◌<◌, eqb, leb}
use Rattle.std.specs.Prelude.{length, get_or}
use Rattle.tags.specs.Kept.{name_from}
use Rattle.tags.specs.declared.Item.{Item}
use Rattle.tags.specs.declared.Item.TheVariants.{Declaration, Instruction, Comment, Section, Reference, Text, Start, Finish}
use Rattle.tags.specs.declared.Item.TheVariants.{Doctype as ADoctype, Malformed as NotFormed, TooLarge as OverSize, Nothing}
use Rattle.document.specs.Place.{Opened, formed}
use Rattle.document.specs.declared.Placement.{Placement}
use Rattle.document.specs.declared.Placement.TheVariants.{Fault, Over}
use Rattle.document.specs.declared.Why.TheVariants.{Malformed, TooLarge}
use Rattle.document.specs.declared.Open.{Open}

-- the names of the first k levels, the innermost first
abbrev pub names_of : List ℕ → List ℕ → List ℕ → ℕ → List (List ℕ)
names_of d starts lens zero = []
names_of d starts lens (suc k) = name_from d (get_or starts k 0) (get_or lens k 0) ∷ names_of d starts lens k

abbrev pub opened_of : List ℕ → List ℕ → List ℕ → Open → Opened
opened_of d starts lens o = record { names = names_of d starts lens o.level.0; rooted = o.rooted }

-- the places are inside the document, 64 of them at most
pub record Names (d starts lens : List ℕ) (o : Open) : Type 0 where
  pub deep : o.level.0 ≤ 64
  pub starts_long : length starts ≡ 64
  pub lens_long : length lens ≡ 64
  pub inside : (i : ℕ) → i < o.level.0 → get_or starts i 0 + get_or lens i 0 ≤ length d

-- ---- a start tag, and the end, by a level and whether a root was there

abbrev pub start_by : ℕ → Bool → Bool → Placement
start_by level rooted twice = cond (leb 64 level) (Fault TooLarge) (formed (not (twice || (rooted && eqb level 0))))

abbrev pub over_by : ℕ → Bool → Placement
over_by level rooted = cond (rooted && eqb level 0) Over (Fault Malformed)

-- ---- after an item

abbrev pub deeper : Bool → ℕ → ℕ
deeper true l = l
deeper false l = l + 1

abbrev pub open_after : Item → Open → Open
open_after (Declaration e) o = o
open_after (Instruction e) o = o
open_after (Comment e) o = o
open_after (Section e) o = o
open_after (Reference c e) o = o
open_after (Text e) o = o
open_after (Start n h e m t) o = record { level = record { 0 = deeper m o.level.0 }; rooted = true }
open_after (Finish n e) o = record { level = record { 0 = o.level.0 - 1 }; rooted = o.rooted }
open_after ADoctype o = o
open_after NotFormed o = o
open_after OverSize o = o
open_after Nothing o = o

-- the length of a start tag's name, which is kept at the level that the tag opens; above the levels that are open anything may be kept
abbrev pub len_of : Item → ℕ
len_of (Declaration e) = 0
len_of (Instruction e) = 0
len_of (Comment e) = 0
len_of (Section e) = 0
len_of (Reference c e) = 0
len_of (Text e) = 0
len_of (Start n h e m t) = n
len_of (Finish n e) = 0
len_of ADoctype = 0
len_of NotFormed = 0
len_of OverSize = 0
len_of Nothing = 0
