-- What each answer says, in document 02's words: "Refusals: 4; then 10; then 12, with the offset of the fault (after such a cut, of the one
-- then found), if no root tag was kept; then 9." The document that is judged is `readable`, what is kept of it is `Keeps`, and the fault
-- that is found is `FirstFault`. proofs/Answered.antt shows that the answer says just so, and that no other does.
use Rattle.std.specs.Prelude.{◌≡◌, true, false, List, ℕ, ◌≤◌, ◌<◌, length, drop, Result, Ok, Err}
use Rattle.xml.specs.Encoding.{NamesOther}
use Rattle.document.specs.Judge.{start_of}
use Rattle.document.specs.declared.Why.{Why}
use Rattle.demands.specs.Reached.{FirstFault}
use Rattle.mend.specs.Kept.{Kept, readable}
use Rattle.mend.specs.Mended.{mended_by}
use Rattle.mend.specs.declared.Mended.{Mended}
use Rattle.mend.specs.declared.MendError.{MendError}
use Rattle.mend.specs.declared.MendError.TheVariants.{TooLong, OtherEncoding, NoRoot, Short}
use Rattle.mended.specs.Meaning.{Keeps}

-- refused neither by 4 nor by 10, as it came; and k is kept of it once it is cut
pub record Taken (d : List ℕ) (k : Kept) : Type 0 where
  pub size : length d ≤ 16777216
  pub utf8 : NamesOther (drop (start_of d) d) → ⊥
  pub kept : Keeps (readable d) k

pub data Says (d : List ℕ) (room : ℕ) : Result Mended MendError → Type 0 where
  too_long : 16777216 < length d → Says d room (Err TooLong)
  in_other_encoding : length d ≤ 16777216 → NamesOther (drop (start_of d) d) → Says d room (Err (OtherEncoding (start_of d)))
  no_root : {f : ℕ} (k : Kept) (why : Why) → Taken d k → k.opened.rooted ≡ false → FirstFault (readable d) why f
      → Says d room (Err (NoRoot f))
  too_short : (k : Kept) → Taken d k → k.opened.rooted ≡ true → room < length (mended_by (readable d) k)
      → Says d room (Err (Short (length (mended_by (readable d) k))))
  -- "the length written, the bytes kept and the end tags added"
  mended : (k : Kept) → Taken d k → k.opened.rooted ≡ true → length (mended_by (readable d) k) ≤ room
      → Says d room (Ok (record { length = length (mended_by (readable d) k); kept = k.bytes; added = length k.opened.names }))
