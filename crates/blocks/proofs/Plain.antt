-- Plain bytes: the code's test of a byte is that of `is_other`; a byte that is not other is an ASCII Char. Last, a run of Chars passes
-- plain bytes.
use mathlib.Core.Path.{◌≡◌, refl, sym, ◌∙◌}
use mathlib.Core.Bool.{Bool, true, false, cond, not, ◌&&◌, ◌||◌}
use mathlib.Core.List.{List, [], ◌∷◌}
use Prim.Native.Nat.{ℕ, ◌<◌}
use native.Mathlib.Omega.{arith}
use borrow.Author.Tests.{ltb-true, ltb-false, lt-ltb, le-leb, lt-leb, ne_eqb, not-false}
use lib.Dec.{eqb, leb, ltb}
use Rattle.xml.specs.Character.{run}
use Rattle.xml.specs.Productions.{is_char}
use Rattle.xml.proofs.Bools.{and_left, and_right}
use Rattle.xml.proofs.Borders.{char_control, char_basic}
use Rattle.xml.proofs.Run.{run_low}
use Rattle.blocks.specs.Block.{until, is_other}

module _ (b : ℕ) where
  pub other_test : (ltb b 0x20 || leb 0x80 b) && not ((eqb b 0x9 || eqb b 0xA) || eqb b 0xD) ≡ is_other b
  unfolding is_other
  other_test = go (ltb b 0x20) (ltb b 0x80) refl refl
    where
      go : (x y : Bool) → ltb b 0x20 ≡ x → ltb b 0x80 ≡ y
          → (ltb b 0x20 || leb 0x80 b) && not ((eqb b 0x9 || eqb b 0xA) || eqb b 0xD) ≡ not (ltb b 0x80 && is_char b)
      go true y p q =
          let h = ltb-true b 0x20 p in
          rw (p, lt-ltb b 0x80 (omega arith), ← char_control {c = b} h)
      go false true p q =
          let h = ltb-false b 0x20 p in
          let l = ltb-true b 0x80 q in
          rw (p, lt-leb 0x80 b l, q, ← char_basic {c = b} h (omega arith))
      go false false p q =
          let l = ltb-false b 0x80 q in
          rw (p, le-leb 0x80 b l, q, ne_eqb b 0x9 (λ e. omega arith), ne_eqb b 0xA (λ e. omega arith), ne_eqb b 0xD (λ e. omega arith))

  pub other_plain : is_other b ≡ false → (b < 0x80) × (is_char b ≡ true)
  unfolding is_other
  other_plain e =
      let h = not-false (ltb b 0x80 && is_char b) e in
      (ltb-true b 0x80 (and_left (ltb b 0x80) _ h), and_right (ltb b 0x80) _ h)

-- a run passes plain bytes
pub plain_run : (s : List ℕ) → run is_char 0 (until is_other s) ≡ run is_char 0 s
unfolding until
plain_run [] = refl
plain_run (b ∷ s) = go (is_other b) refl (plain_run s)
  where
    go : (x : Bool) → is_other b ≡ x → run is_char 0 (until is_other s) ≡ run is_char 0 s
        → run is_char 0 (cond x (b ∷ s) (until is_other s)) ≡ run is_char 0 (b ∷ s)
    go true e rec = refl
    go false e rec = let (l, c) = other_plain b e in rec ∙ sym (run_low is_char b s l ∙ rw c)

pub ruleset plain = (other_test)
