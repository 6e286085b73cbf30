-- Text laid into a buffer as far as it reaches: `sets o at s` stores the bytes of s one by one from the place at on, and a store past the
-- end does nothing. So no room is asked for, and a buffer of one byte measures.
use Rattle.std.specs.Prelude.{◌≡◌, List, ℕ, ◌+◌, length}
use Rattle.std.proofs.lemmas.List.Edits.{sets}

-- s was laid into the buffer o from the place at on; r is the place after it, and o' the buffer then
pub record Wrote (o : List ℕ) (at : ℕ) (s : List ℕ) (r : ℕ) (o' : List ℕ) : Type 0 where
  pub long : r ≡ at + length s
  pub laid : o' ≡ sets o at s
