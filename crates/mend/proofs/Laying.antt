-- `laid`: the first bytes of a document and the end tags of what is open, in a buffer. They are measured by the end tags alone, laid from
-- the place where the kept bytes end.
use mathlib.Core.Path.{◌≡◌, refl, sym, ap, ◌∙◌}
use mathlib.Core.Bool.{Bool, true, false, not, false≢true}
use mathlib.Core.List.{List, ◌++◌}
use Prim.Native.Nat.{ℕ, ◌-◌, ◌≤◌, ◌<◌}
use native.Mathlib.Omega.{arith}
use borrow.Author.Tests.{lt-ltb, le-ltb}
use lib.ListN.{length, take, drop, length-append}
use lib.Seq.{length-take-le}
use Rattle.std.specs.Prelude.{Ok, Err}
use Rattle.document.specs.Levels.{names_of, opened_of}
use Rattle.document.specs.declared.Open.{Open}
use Rattle.document.proofs.Placing.{names_long}
use Rattle.writer.specs.Wrote.{Wrote}
use Rattle.writer.proofs.Laying.{wrote_more, laid_whole}
use Rattle.mend.specs.Kept.{Kept}
use Rattle.mend.specs.Mended.{end_tags, mended_by}
use Rattle.mend.specs.Answer.{answer_by}
use Rattle.mend.specs.declared.MendError.TheVariants.{NoRoot, Short}

-- a test that is turned round
pub not_false : (b : Bool) → not b ≡ false → b ≡ true
not_false true q = refl
not_false false q = absurd (false≢true (sym q))

-- the first bytes of a document, as the code lends them
pub front_lent : (n : ℕ) (d : List ℕ) → take (n - 0) (drop 0 d) ≡ take n d
front_lent n d =
    let z : n - 0 ≡ n = omega arith in
    rw z

module _ (d starts lens : List ℕ) (x : Open) (at : ℕ) where
  abbrev tags : List ℕ
  tags = end_tags (names_of d starts lens x.level.0)

  abbrev pub kept_here : Kept
  kept_here = record { bytes = at; opened = opened_of d starts lens x }

  pub laid_none : (room : ℕ) → x.rooted ≡ false → Err (NoRoot at) ≡ answer_by d kept_here at room
  laid_none room q = sym (rw q)

  module _ (h : at ≤ length d) {s s' : List ℕ} {n : ℕ} (w : Wrote s at tags n s') where
    size : length (mended_by d kept_here) ≡ n
    size = omega (arith, length-append (take at d) tags, length-take-le at d h, w.long)

    pub laid_short : (room : ℕ) → x.rooted ≡ true → room < n → Err (Short n) ≡ answer_by d kept_here at room
    laid_short room q l = sym (rw (q, size, lt-ltb room n l))

    pub laid_mended : (room : ℕ) → x.rooted ≡ true → n ≤ room
        → Ok (record { length = n; kept = at; added = x.level.0 }) ≡ answer_by d kept_here at room
    laid_mended room q l = sym (rw (q, size, le-ltb room n l, names_long d starts lens x.level.0))

    pub laid_bytes : {o o₁ o₂ : List ℕ} {e r : ℕ} → n ≤ length o → Wrote o 0 (take (at - 0) (drop 0 d)) e o₁ → Wrote o₁ e tags r o₂
        → o₂ ≡ mended_by d kept_here ++ drop n o
    laid_bytes {o} l p q =
        (wrote_more (rw (front_lent at d) at p) q).laid
        ∙ laid_whole (mended_by d kept_here) o (omega (arith, size))
        ∙ ap (λ (k : ℕ). mended_by d kept_here ++ drop k o) size

pub ruleset laying = (not_false, laid_none, laid_short, laid_mended, laid_bytes)
