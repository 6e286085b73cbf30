-- What mending keeps of a document, in document 02's words. In order: "For kind 5 the document is first cut at the bad sequence and judged
-- again"; "A text item that touches the end with an element open is dropped as perhaps half a name"; "keeps the three front bytes EF BB BF
-- where they stand, and every whole item before the first fault of kinds 5 to 8".
--
--     document      kept
--     <g><n>Aar     <g><n>     the text touches the end, and n and g are open
--     <g>Aar<n      <g>Aar     the text is whole, and `<n` is at fault
--     <g/> x        <g/>       ` x` is at fault outside the root, and nothing is open
use Rattle.std.specs.Prelude.{Bool, true, false, cond, not, ◌&&◌, List, ℕ, zero, suc, leb, length, take, Result, Ok, Err}
use Rattle.chars.specs.Check.{check_of}
use Rattle.chars.specs.declared.whole.CharError.{CharError}
use Rattle.tags.specs.declared.Item.{Item}
use Rattle.tags.specs.declared.Item.TheVariants.{Declaration, Instruction, Comment, Section, Reference, Text, Start, Finish}
use Rattle.tags.specs.declared.Item.TheVariants.{Doctype, Malformed, TooLarge, Nothing}
use Rattle.items.specs.Item.{item_at}
use Rattle.document.specs.Place.{Opened, inside, placement, after_item, end_of}
use Rattle.document.specs.Judge.{start_of, nothing}
use Rattle.document.specs.declared.Placement.{Placement}
use Rattle.document.specs.declared.Placement.TheVariants.{Fine, Fault, Over}

-- ---- characters

abbrev pub cut_at : Result Unit CharError → List ℕ → List ℕ
cut_at (Ok tt) d = d
cut_at (Err e) d = take e.valid_up_to d

-- "the document is first cut at the bad sequence": what is judged then is characters throughout
unfoldable pub readable : List ℕ → List ℕ
readable d = cut_at (check_of d) d

-- ---- items

-- how many bytes are kept, and what is open after them
pub record Kept : Type 0 where
  pub bytes : ℕ
  pub opened : Opened

-- "A text item that touches the end with an element open"
abbrev pub halved : List ℕ → Item → Opened → Bool
halved d (Declaration e) s = false
halved d (Instruction e) s = false
halved d (Comment e) s = false
halved d (Section e) s = false
halved d (Reference c e) s = false
halved d (Text e) s = inside s && leb (length d) e
halved d (Start n h e m t) s = false
halved d (Finish n e) s = false
halved d Doctype s = false
halved d Malformed s = false
halved d TooLarge s = false
halved d Nothing s = false

-- an item is kept that may stand where it stands, and is no such text
abbrev pub stays : Placement → Bool → Bool
stays Fine half = not half
stays (Fault why) half = false
stays Over half = false

-- by what is said of an item at a place: `here` keeps what stands before it, `next` goes on after it
abbrev pub kept_by : Placement → Bool → Kept → Kept → Kept
kept_by p half here next = cond (stays p half) next here

-- item by item; the first number is more than the items there can be
unfoldable pub kept_from : ℕ → List ℕ → ℕ → Bool → Opened → Kept
kept_from zero d at first s = record { bytes = at; opened = s }
kept_from (suc k) d at first s =
    let i = item_at first d at in
    kept_by (placement d at i s) (halved d i s) (record { bytes = at; opened = s })
    (kept_from k d (end_of at i) false (after_item d at i s))

-- from the first item on: the three front bytes stand before it
unfoldable pub kept_of : List ℕ → Kept
kept_of d = kept_from (suc (length d)) d (start_of d) true nothing
