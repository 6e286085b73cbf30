-- [2] Char by its borders. First what is left of the ranges from 0x20 on, then a law for each stretch between two borders, and the laws as
-- rules: each is one way through the code of `is_char` in the crate points.
use mathlib.Core.Path.{◌≡◌, refl, sym, ◌∙◌}
use mathlib.Core.Bool.{Bool, true, false, ◌&&◌, ◌||◌, or_assoc, or-false}
use Prim.Native.Nat.{ℕ, ◌≤◌, ◌<◌}
use native.Mathlib.Omega.{arith}
use borrow.Author.Rules.{rules}
use borrow.Author.Tests.{le-leb, lt-leb, ltb-true, ltb-false}
use lib.Dec.{eqb, leb, ltb}
use Rattle.xml.specs.Productions.{is_char}
use Rattle.xml.proofs.Bools.{only_equal}

-- from 0x20 on three ranges are left
abbrev above : ℕ → Bool
above c = leb 0x20 c && leb c 0xD7FF || (leb 0xE000 c && leb c 0xFFFD || (leb 0x10000 c && leb c 0x10FFFF || false))

char_above : (c : ℕ) → 0x20 ≤ c → is_char c ≡ above c
unfolding is_char
char_above c h =
    rw (
      le-leb 0x9 c (omega arith),
      lt-leb c 0x9 (omega arith),
      le-leb 0xA c (omega arith),
      lt-leb c 0xA (omega arith),
      le-leb 0xD c (omega arith),
      lt-leb c 0xD (omega arith),
    )

module _ {c : ℕ} where
  pub char_control : c < 0x20 → (eqb c 0x9 || eqb c 0xA) || eqb c 0xD ≡ is_char c
  unfolding is_char
  char_control h =
      rw (
        only_equal c 0x9,
        only_equal c 0xA,
        only_equal c 0xD,
        lt-leb 0x20 c h,
        lt-leb 0xE000 c (omega arith),
        lt-leb 0x10000 c (omega arith),
      )
      (simp (or_assoc, or-false))

  pub char_basic : 0x20 ≤ c → c < 0xD800 → true ≡ is_char c
  char_basic h k = sym (char_above c h ∙ rw (le-leb 0x20 c h, le-leb c 0xD7FF (omega arith)))

  pub char_surrogate : 0xD800 ≤ c → c < 0xE000 → false ≡ is_char c
  char_surrogate h k =
      sym
      (char_above c (omega arith)
      ∙ rw (le-leb 0x20 c (omega arith), lt-leb c 0xD7FF (omega arith), lt-leb 0xE000 c k, lt-leb 0x10000 c (omega arith)))

  pub char_private : 0xE000 ≤ c → c < 0xFFFE → true ≡ is_char c
  char_private h k =
      sym
      (char_above c (omega arith)
      ∙ rw (le-leb 0x20 c (omega arith), lt-leb c 0xD7FF (omega arith), le-leb 0xE000 c h, le-leb c 0xFFFD (omega arith)))

  pub char_last : 0xFFFE ≤ c → c < 0x10000 → false ≡ is_char c
  char_last h k =
      sym
      (char_above c (omega arith)
      ∙ rw (
        le-leb 0x20 c (omega arith),
        lt-leb c 0xD7FF (omega arith),
        le-leb 0xE000 c (omega arith),
        lt-leb c 0xFFFD (omega arith),
        lt-leb 0x10000 c k,
      ))

  pub char_high : 0x10000 ≤ c → ltb c 0x110000 ≡ is_char c
  char_high h =
      sym
      (char_above c (omega arith)
      ∙ rw (
        le-leb 0x20 c (omega arith),
        lt-leb c 0xD7FF (omega arith),
        le-leb 0xE000 c (omega arith),
        lt-leb c 0xFFFD (omega arith),
        le-leb 0x10000 c h,
      ) (go (ltb c 0x110000) refl))
    where
      go : (x : Bool) → ltb c 0x110000 ≡ x → leb c 0x10FFFF || false ≡ ltb c 0x110000
      go true e = rw (e, le-leb c 0x10FFFF (let l = ltb-true c 0x110000 e in omega arith))
      go false e = rw (e, lt-leb c 0x10FFFF (let l = ltb-false c 0x110000 e in omega arith))

pub ruleset charring = (char_control, char_basic, char_surrogate, char_private, char_last, char_high, rules)
