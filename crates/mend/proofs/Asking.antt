-- What the code asks: how many bytes at the front are characters, `readable_end`.
use mathlib.Core.Path.{◌≡◌, sym, ap, ◌∙◌}
use mathlib.Core.List.{List}
use Prim.Native.Nat.{ℕ, ◌≤◌}
use native.Mathlib.Omega.{arith}
use lib.ListN.{length, take}
use lib.Seq.{take-length}
use Rattle.chars.specs.Check.{check_of}
use Rattle.chars.specs.Meaning.{CheckSays}
use Rattle.std.specs.Prelude.{Result, Ok, Err}
use Rattle.chars.specs.declared.whole.CharError.{CharError}
use Rattle.chars.proofs.Meaning.{check_says}
use Rattle.mend.specs.Kept.{cut_at, readable}

-- ---- `readable_end`

module _ (d : List ℕ) {r : Result Unit CharError} (q : r ≡ check_of d) where
  pub readable_all : r ≡ Ok tt → take (length d) d ≡ readable d
  unfolding readable
  readable_all h = take-length d ∙ ap (λ (x : Result Unit CharError). cut_at x d) (sym h ∙ q)

  pub readable_cut : {o : ℕ} → r ≡ Err (record { valid_up_to = o }) → take o d ≡ readable d
  unfolding readable
  readable_cut h = ap (λ (x : Result Unit CharError). cut_at x d) (sym h ∙ q)

  pub readable_inside : {o : ℕ} → r ≡ Err (record { valid_up_to = o }) → o ≤ length d
  readable_inside {o} h =
      let s : CheckSays d (Err (record { valid_up_to = o })) = rw (sym q ∙ h) at (check_says d) in
      let l = s.0 in
      omega arith

pub ruleset asking = (readable_all, readable_cut, readable_inside)
