-- `mend`: too long, another encoding, or what is mended of the document of characters.
use mathlib.Core.Path.{◌≡◌, refl, sym, ap, ◌∙◌}
use mathlib.Core.Bool.{Bool, true, false}
use mathlib.Core.List.{List}
use Prim.Native.Nat.{ℕ, ◌-◌, ◌≤◌, ◌<◌}
use native.Mathlib.Omega.{arith}
use borrow.Author.Tests.{lt-ltb, le-ltb}
use lib.ListN.{length, take, drop}
use lib.Seq.{length-take-le}
use Rattle.std.specs.Prelude.{Result, Err}
use Rattle.readers.specs.Named.{other_encoding}
use Rattle.document.specs.Judge.{start_of, scanned, second_of as fault_of}
use Rattle.mend.specs.Kept.{readable, kept_of}
use Rattle.mend.specs.Mended.{mended_by, mended_of}
use Rattle.mend.specs.Answer.{answer_by, fault_at, answer_of, after, bytes_after}
use Rattle.mend.specs.declared.Mended.{Mended}
use Rattle.mend.specs.declared.MendError.{MendError}
use Rattle.mend.specs.declared.MendError.TheVariants.{TooLong, OtherEncoding}
use Rattle.mend.proofs.Laying.{front_lent}

-- both promises of a call
pub record Mends (d o : List ℕ) (r : Result Mended MendError) (o' : List ℕ) : Type 0 where
  pub is : r ≡ answer_of d (length o)
  pub bytes : o' ≡ bytes_after d o

pub both : (d o : List ℕ) {r : Result Mended MendError} {o' : List ℕ} → Mends d o r o'
    → (r ≡ answer_of d (length o)) × (o' ≡ bytes_after d o)
both d o m = (m.is, m.bytes)

-- the first n bytes, as the code lends them
abbrev lent : List ℕ → ℕ → List ℕ
lent d n = take (n - 0) (drop 0 d)

module _ (d o : List ℕ) where
  answered : {r : Result Mended MendError} {o' : List ℕ} → r ≡ answer_of d (length o) → o' ≡ after r (mended_of d) o → Mends d o r o'
  unfolding bytes_after
  answered e q = record { is = e; bytes = q ∙ ap (λ (a : Result Mended MendError). after a (mended_of d) o) e }

  pub mend_long : 16777216 < length d → Mends d o (Err TooLong) o
  unfolding answer_of
  mend_long l = answered (sym (rw (lt-ltb 16777216 (length d) l))) refl

  module _ (l : length d ≤ 16777216) {k : ℕ} (e : k ≡ start_of d) {b : Bool} (q : b ≡ other_encoding (drop k d)) where
    named : {x : Bool} → b ≡ x → other_encoding (drop (start_of d) d) ≡ x
    named h = rw (← e) (sym q ∙ h)

    pub mend_other : b ≡ true → Mends d o (Err (OtherEncoding k)) o
    unfolding answer_of
    mend_other h = answered (ap (λ (n : ℕ). Err (OtherEncoding n)) e ∙ sym (rw (le-ltb 16777216 (length d) l, named h))) refl

    pub mend_rest : b ≡ false → (n : ℕ) → take n d ≡ readable d → {r : Result Mended MendError} {o' : List ℕ}
        → r ≡ answer_by (lent d n) (kept_of (lent d n)) (fault_of (scanned (lent d n))) (length o)
        → o' ≡ after r (mended_by (lent d n) (kept_of (lent d n))) o → Mends d o r o'
    unfolding answer_of fault_at mended_of
    mend_rest h n z {r} x y =
        let q = front_lent n d ∙ z in
        answered
        (x
        ∙ ap (λ (w : List ℕ). answer_by w (kept_of w) (fault_of (scanned w)) (length o)) q
        ∙ sym (rw (le-ltb 16777216 (length d) l, named h)))
        (y ∙ ap (λ (w : List ℕ). after r (mended_by w (kept_of w)) o) q)

pub mend_small : (d : List ℕ) → length d ≤ 16777216 → (n : ℕ) → n ≤ length d → length (lent d n) ≤ 16777216
mend_small d l n h = omega (arith, ap length (front_lent n d), length-take-le n d h)

pub ruleset mending = (both, mend_long, mend_other, mend_rest, mend_small)
