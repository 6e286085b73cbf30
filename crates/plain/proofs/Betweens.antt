-- `between`, by its ways through the code: the first text is not there, the last is not there, both are. Then comments and sections, which
-- are cases of it.
use mathlib.Core.Path.{◌≡◌, refl}
use mathlib.Core.Bool.{Bool, true, false, not}
use mathlib.Core.List.{List}
use Prim.Native.Nat.{ℕ, ◌+◌, ◌^◌, ◌≤◌, ◌<◌}
use native.Mathlib.Omega.{arith}
use lib.ListN.{length, drop}
use borrow.Author.Tests.{not-true, not-false}
use mir.Syntax.{w64}
use mir.Val.{Fits}
use Rattle.xml.specs.Notation.{bytes}
use Rattle.xml.specs.Character.{begins}
use Rattle.utf8.specs.Place.{ends_at}
use Rattle.chars.specs.Name.{reading_at}
use Rattle.std.specs.Prelude.{Option, Some, None}
use Rattle.readers.specs.Read.{expect, seek}
use Rattle.readers.specs.Plain.{comment_of, section_of}
use Rattle.readers.specs.Answer.{Answers}
use Rattle.readers.proofs.Answers.{answers_reading, then_fault, then_ends, on_from, text_inside, text_yes, text_no}
use Rattle.plain.specs.Between.{between_of}
use Rattle.scans.proofs.Seeks.{sought_ahead, sought_stands}

-- a text that stands at a place ends inside
pub text_fits : (d : List ℕ) (at : ℕ) (w : List ℕ) {x : Bool} → x ≡ begins w (drop at d) → not x ≡ false → 0 < length w
    → at + length w ≤ length d
text_fits d at w {x} e n l = text_inside d at w e (not-false x n) l

pub text_add : (d : List ℕ) (at : ℕ) (w : List ℕ) {x : Bool} → x ≡ begins w (drop at d) → not x ≡ false → 0 < length w → length d < 2 ^ 64
    → Fits w64 (at + length w)
text_add d at w e n l h = record { fits = let f = text_fits d at w e n l in omega arith }

module _ (d : List ℕ) (at : ℕ) (first stop last : List ℕ) {x : Bool} (e : x ≡ begins first (drop at d)) where
  pub between_none : not x ≡ true → None ≡ reading_at d at (between_of first stop last (drop at d))
  unfolding between_of
  between_none n =
      answers_reading (then_fault (text_no d at first e (not-true x n)) (λ t. expect last (seek stop t)) refl)

  module _ (n : not x ≡ false) (l : 0 < length first) {i : ℕ}
      (s : i ≡ ends_at d (at + length first) (seek stop (drop (at + length first) d)))
      {y : Bool} (f : y ≡ begins last (drop i d)) where
    closes : {r : Option ℕ} → Answers d i r (expect last (drop i d)) → r ≡ reading_at d at (between_of first stop last (drop at d))
    unfolding between_of
    closes {r} a =
        let k = at + length first in
        let o = text_yes d at first e (not-false x n) l in
        let z = sought_stands d k stop s (text_fits d at first e n l) in
        let p = on_from (expect last) z (sought_ahead d k stop s) a in
        answers_reading (then_ends o (λ t. expect last (seek stop t)) refl p)

    pub between_other : not y ≡ true → None ≡ reading_at d at (between_of first stop last (drop at d))
    between_other m = closes (text_no d i last f (not-true y m))

    pub between_ends : not y ≡ false → 0 < length last → Some (i + length last) ≡ reading_at d at (between_of first stop last (drop at d))
    between_ends m h = closes (text_yes d i last f (not-false y m) h)

-- ---- comments and sections

module _ (d : List ℕ) (at : ℕ) {r : Option ℕ} where
  pub comment_between : r ≡ reading_at d at (between_of (bytes "<!--") (bytes "--") (bytes "-->") (drop at d))
      → r ≡ reading_at d at (comment_of (drop at d))
  unfolding between_of comment_of
  comment_between e = e

  pub section_between : r ≡ reading_at d at (between_of (bytes "<![CDATA[") (bytes "]]>") (bytes "]]>") (drop at d))
      → r ≡ reading_at d at (section_of (drop at d))
  unfolding between_of section_of
  section_between e = e

pub ruleset enclosed = (text_add, between_none, between_other, between_ends, comment_between, section_between)
