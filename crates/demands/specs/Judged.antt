-- What each answer on a document says, in the request's words: "4: document too long"; 10, "the first item has the right shape of a
-- declaration and names another encoding"; "5: not UTF-8, or not a Char, anywhere"; "6, 7, 8: doctype; not well-formed; over a size"; and a
-- document that is accepted, with its forest. They apply in this order.
use Rattle.std.specs.Prelude.{List, ℕ, ◌≤◌, ◌<◌, length, drop, Result, Ok, Err, ⊤}
use Rattle.xml.specs.Forest.{Forest}
use Rattle.xml.specs.Encoding.{NamesOther}
use Rattle.xml.specs.Document.{Small, Document}
use Rattle.chars.specs.Meaning.{CheckSays}
use Rattle.readers.specs.Meaning.{Chars}
use Rattle.document.specs.Judge.{start_of}
use Rattle.document.specs.declared.Why.{Why}
use Rattle.document.specs.declared.DocumentError.{DocumentError}
use Rattle.document.specs.declared.DocumentError.TheVariants.{TooLong, OtherEncoding, NotChar, At}
use Rattle.demands.specs.Reached.{FirstFault}

-- "in UTF-8 and keeps XML 1.0 (Fifth Edition) without a document type, within the stated sizes": production [1] derives it, with the
-- forest f. "Accept a declaration without an encoding, or one that says UTF-8 with ASCII letter case ignored" is part of `Document`: its
-- declaration is `Utf8Decl`.
pub record Accepted (d : List ℕ) (f : Forest) : Type 0 where
  pub size : length d ≤ 16777216
  pub chars : Chars d
  pub derived : Document Small (drop (start_of d) d) f

pub data DocumentSays (d : List ℕ) : Result ⊤ DocumentError → Type 0 where
  too_long : 16777216 < length d → DocumentSays d (Err TooLong)
  -- of any bytes: what stands behind the declaration does not matter
  in_other_encoding : length d ≤ 16777216 → NamesOther (drop (start_of d) d) → DocumentSays d (Err (OtherEncoding (start_of d)))
  not_char : {o : ℕ} → length d ≤ 16777216 → (NamesOther (drop (start_of d) d) → ⊥) → CheckSays d (Err (record { valid_up_to = o }))
      → DocumentSays d (Err (NotChar o))
  at_fault : {why : Why} {o : ℕ} → length d ≤ 16777216 → (NamesOther (drop (start_of d) d) → ⊥) → Chars d → FirstFault d why o
      → DocumentSays d (Err (At why o))
  sound : {f : Forest} → Accepted d f → DocumentSays d (Ok tt)
