-- The answer on a document: its length, the encoding that it declares, its characters, and then item by item, the first item at fault
-- decides. And the numbers.
use Rattle.std.specs.Prelude.{Bool, true, false, cond, List, [], ◌∷◌, ℕ, zero, suc, ltb, length, drop, Result, Ok, Err, ⊤}
use Rattle.xml.specs.Character.{begins}
use Rattle.chars.specs.Check.{check_of}
use Rattle.chars.specs.declared.whole.CharError.{CharError}
use Rattle.readers.specs.Named.{other_encoding}
use Rattle.items.specs.Item.{item_at}
use Rattle.document.specs.Place.{Opened, placement, after_item, end_of}
use Rattle.document.specs.declared.Placement.{Placement}
use Rattle.document.specs.declared.Placement.TheVariants.{Fine, Fault, Over}
use Rattle.document.specs.declared.Why.{Why}
use Rattle.document.specs.declared.Why.TheVariants.{Doctype, Malformed, TooLarge}
use Rattle.document.specs.declared.DocumentError.{DocumentError}
use Rattle.document.specs.declared.DocumentError.TheVariants.{TooLong, OtherEncoding, NotChar, At}

-- "Three bytes EF BB BF at the front are skipped"
abbrev pub front : List ℕ
front = 0xEF ∷ 0xBB ∷ 0xBF ∷ []

unfoldable pub start_of : List ℕ → ℕ
start_of d = cond (begins front d) 3 0

-- nothing is open
abbrev pub nothing : Opened
nothing = record { names = []; rooted = false }

-- by what is said of an item at a place: `next` goes on after it
abbrev pub onward : Placement → ℕ → Result ⊤ DocumentError → Result ⊤ DocumentError
onward Fine at next = next
onward (Fault why) at next = Err (At why at)
onward Over at next = Ok tt

-- item by item; the first number is more than the items there can be
unfoldable pub scan_from : ℕ → List ℕ → ℕ → Bool → Opened → Result ⊤ DocumentError
scan_from zero d at first s = Err (At Malformed at)
scan_from (suc k) d at first s =
    let i = item_at first d at in
    onward (placement d at i s) at (scan_from k d (end_of at i) false (after_item d at i s))

unfoldable pub scanned : List ℕ → Result ⊤ DocumentError
scanned d = scan_from (suc (length d)) d (start_of d) true nothing

abbrev pub by_chars : Result Unit CharError → Result ⊤ DocumentError → Result ⊤ DocumentError
by_chars (Ok tt) r = r
by_chars (Err e) r = Err (NotChar e.valid_up_to)

-- "10, with the declaration's offset, stands between 4 and 5 and is given exactly when the first item has the right shape of a declaration
-- and names another encoding"
abbrev pub by_encoding : List ℕ → Result ⊤ DocumentError → Result ⊤ DocumentError
by_encoding d r = cond (other_encoding (drop (start_of d) d)) (Err (OtherEncoding (start_of d))) r

unfoldable pub judge_of : List ℕ → Result ⊤ DocumentError
judge_of d = cond (ltb 16777216 (length d)) (Err TooLong) (by_encoding d (by_chars (check_of d) (scanned d)))

-- ---- the numbers: document 01's, and 10 for another encoding

abbrev pub why_number : Why → ℕ
why_number Doctype = 6
why_number Malformed = 7
why_number TooLarge = 8

-- of a refusal: its number, and the offset
abbrev pub document_number : DocumentError → ℕ
document_number TooLong = 4
document_number (OtherEncoding o) = 10
document_number (NotChar o) = 5
document_number (At why o) = why_number why

abbrev pub document_second : DocumentError → ℕ
document_second TooLong = 0
document_second (OtherEncoding o) = o
document_second (NotChar o) = o
document_second (At why o) = o

-- of an answer: 0 and 0 of a sound document
abbrev pub number_of : Result ⊤ DocumentError → ℕ
number_of (Ok u) = 0
number_of (Err e) = document_number e

abbrev pub second_of : Result ⊤ DocumentError → ℕ
second_of (Ok u) = 0
second_of (Err e) = document_second e
