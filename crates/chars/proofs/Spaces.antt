-- White space: its four bytes are the four ranges of [3]; it is ASCII alone, so a byte tells it; and the loop over a run of it, with the
-- rules by which both functions are proved.
use mathlib.Core.Path.{◌≡◌, sym, ◌∙◌}
use mathlib.Core.Bool.{Bool, true, false, ◌||◌, and-false, or_assoc, or-false}
use mathlib.Core.List.{List}
use Prim.Native.Nat.{ℕ, ◌+◌, ◌≤◌, ◌<◌, max}
use native.Mathlib.Omega.{arith}
use lib.Dec.{eqb, leb}
use lib.ListN.{length, get_or, drop}
use borrow.Author.Tests.{lt-leb}
use Rattle.xml.specs.Character.{starts}
use Rattle.xml.specs.Productions.{is_space}
use Rattle.xml.proofs.Bools.{only_equal}
use Rattle.chars.specs.Space.{space_end}
use Rattle.chars.proofs.Runs.{Running, run_start, run_ends, run_over, run_on, Ascii, starts_byte, byte_wide}

pub space_four : (b : ℕ) → ((eqb b 0x20 || eqb b 0x9) || eqb b 0xD) || eqb b 0xA ≡ is_space b
unfolding is_space
space_four b =
    rw (only_equal b 0x20, only_equal b 0x9, only_equal b 0xD, only_equal b 0xA) (simp (or_assoc, or-false))

-- ---- the run

pub space_ascii : Ascii is_space
unfolding is_space
space_ascii =
    record {
      none_high = λ c h.
          rw (
            lt-leb c 0x20 (omega arith),
            lt-leb c 0x9 (omega arith),
            lt-leb c 0xD (omega arith),
            lt-leb c 0xA (omega arith),
            and-false (leb 0x20 c),
            and-false (leb 0x9 c),
            and-false (leb 0xD c),
            and-false (leb 0xA c),
          );
    }

module _ {d : List ℕ} {at i : ℕ} (v : Running is_space d at i) (h : i < length d) {x : Bool} (q : x ≡ is_space (get_or d i 0)) where
  space_starts : {y : Bool} → x ≡ y → starts is_space (drop i d) ≡ y
  space_starts e = starts_byte space_ascii d i h ∙ sym q ∙ e

  pub spaces_end : x ≡ false → i ≡ space_end d at
  unfolding space_end
  spaces_end n = run_ends v (space_starts n) (omega arith)

  pub spaces_on : x ≡ true → Running is_space d at (i + 1)
  spaces_on y = run_on v (space_starts y) (byte_wide space_ascii d i h (sym q ∙ y)) h

pub spaces_over : {d : List ℕ} {at i r : ℕ} → Running is_space d at i → length d ≤ i → r ≡ max at (length d) → r ≡ space_end d at
unfolding space_end
spaces_over {d} {at} {i} {r} v h m = let e : r ≡ i = omega (arith, v.begun, v.bound) in e ∙ run_over v h

pub ruleset spacing = (space_four, run_start, spaces_end, spaces_on, spaces_over)
