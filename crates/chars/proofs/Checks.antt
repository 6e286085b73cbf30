-- The whole document's characters, as the code goes through them: blocks at once, then characters one by one, in turn. In order:
-- `after_blocks`; `after_chars`; `check`.
use mathlib.Core.Path.{◌≡◌, refl, sym, ◌∙◌}
use mathlib.Core.Bool.{Bool, true, false, not}
use mathlib.Core.List.{List, ◌∷◌}
use Prim.Native.Nat.{ℕ, ◌+◌, ◌-◌, ◌≤◌, ◌<◌}
use native.Mathlib.Omega.{arith}
use borrow.Author.Tests.{not-true, not-false}
use lib.ListN.{length, get_or, drop, length-drop}
use Rattle.xml.specs.Character.{starts, run}
use Rattle.xml.specs.Productions.{is_char}
use Rattle.xml.proofs.Run.{starts_nil, run_low, run_stop}
use Rattle.blocks.specs.Block.{is_other, Passes}
use Rattle.blocks.specs.Usual.{after_block}
use Rattle.chars.specs.Check.{check_of}
use Rattle.utf8.specs.Sequence.{sequence_at}
use Rattle.std.specs.Prelude.{Option, Some, None, Ok, Err}
use Rattle.utf8.proofs.Place.{drop_step, drop_end}
use Rattle.blocks.proofs.Plain.{other_plain}
use Rattle.blocks.proofs.Owed.{block_passed}
use Rattle.chars.proofs.Runs.{point_starts, bad_starts, point_wide, run_start, run_less, run_on}

-- ---- `after_blocks`

pub pass_start : {d : List ℕ} {from : ℕ} → from ≤ length d → Passes d from from
pass_start h = record { ahead = omega arith; inside = h; same = refl }

module _ {d : List ℕ} {from i : ℕ} (v : Passes d from i) where
  pub pass_on : {e : ℕ} → Passes d i e → Passes d from e
  pass_on {e} w =
      let a : from ≤ i = v.ahead in
      let b : i ≤ e = w.ahead in
      record { ahead = omega arith; inside = w.inside; same = w.same ∙ v.same }

  module _ (h : 67 ≤ length d - i) {e : ℕ} (q : e ≡ after_block d i) where
    block_pass : Passes d i e
    block_pass = rw q (block_passed d i (omega arith))

    pub block_on : Passes d from e
    block_on = pass_on block_pass

    pub block_less : (e ≡ i → ⊥) → length d - e < length d - i
    block_less n = omega (arith, n, block_pass.ahead, block_pass.inside)

pub ruleset passing = (pass_start, block_on, block_less)

-- ---- `after_chars`

-- at the end
pub char_nil : (d : List ℕ) (i : ℕ) → length d ≤ i → starts is_char (drop i d) ≡ false
char_nil d i h = rw (drop_end d i h) (starts_nil is_char)

-- a plain byte
module _ {d : List ℕ} {at i : ℕ} (v : Passes d at i) (h : i < length d) where
  pub char_plain : {x : Bool} → x ≡ is_other (get_or d i 0) → x ≡ false → Passes d at (i + 1)
  char_plain q n =
      let (l, c) = other_plain (get_or d i 0) (sym q ∙ n) in
      let a : at ≤ i = v.ahead in
      record {
        ahead = omega arith;
        inside = omega arith;
        same = sym (rw (drop_step d i h) (run_low is_char (get_or d i 0) (drop (i + 1) d) l ∙ rw c)) ∙ v.same;
      }

  -- a sequence, or none
  module _ {r : Option (ℕ × ℕ)} (q : r ≡ sequence_at d i) where
    pub char_bad : r ≡ None → starts is_char (drop i d) ≡ false
    char_bad b = bad_starts d i q is_char b

    module _ {c e : ℕ} (f : r ≡ Some (c, e)) {x : Bool} (g : x ≡ is_char c) where
      char_is : {y : Bool} → x ≡ y → starts is_char (drop i d) ≡ y
      char_is z = point_starts d i q is_char f ∙ sym g ∙ z

      pub char_none : not x ≡ true → starts is_char (drop i d) ≡ false
      char_none n = char_is (not-true x n)

      pub char_less : not x ≡ false → length d - e < length d - i
      char_less n = run_less (run_start {p = is_char} {d = d} {at = i}) (char_is (not-false x n)) (point_wide d i q f) h

      pub char_on : not x ≡ false → Passes d at e
      char_on n =
          let w = run_on (run_start {p = is_char} {d = d} {at = i}) (char_is (not-false x n)) (point_wide d i q f) h in
          let a : at ≤ i = v.ahead in
          let b : i ≤ e = w.begun in
          let c : e - length d ≤ i - length d = w.bound in
          record { ahead = omega arith; inside = omega arith; same = w.same ∙ v.same }

pub ruleset reading = (pass_start, char_nil, char_plain, char_bad, char_none, char_less, char_on)

-- ---- `check`

module _ {d : List ℕ} {i k e : ℕ} (v : Passes d 0 i) (w : Passes d i k) (u : Passes d k e) where
  pub check_on : Passes d 0 e
  check_on = pass_on (pass_on v w) u

  pub check_all : length d ≤ e → Ok tt ≡ check_of d
  unfolding check_of run
  check_all h = sym (rw (← check_on.same, drop_end d e h))

  pub check_bad : e < length d → starts is_char (drop e d) ≡ false → Err (record { valid_up_to = e }) ≡ check_of d
  unfolding check_of
  check_bad h n =
      let r : run is_char 0 d ≡ drop e d = sym check_on.same ∙ run_stop is_char (drop e d) n in
      let m : e ≡ length d - length (get_or d e 0 ∷ drop (e + 1) d) = omega (arith, length-drop (e + 1) d) in
      sym (rw (r, drop_step d e h, ← m))

  pub check_less : e < length d → k + 64 ≤ e → length d - e < length d - i
  check_less h n = omega (arith, w.ahead)

pub ruleset checking = (pass_start, check_on, check_all, check_bad, check_less)
