-- The states by level, made again from the names by level: `states_of`. The invariant: those of the first k levels are made.
use mathlib.Core.Path.{◌≡◌, sym, ap, ap₂, ◌∙◌}
use mathlib.Core.List.{List}
use mathlib.Core.Logic.{⊎_elim}
use Prim.Native.Nat.{ℕ, suc, ◌+◌, ◌≤◌, ◌<◌}
use native.Mathlib.Nat.{zero-add, eq-or-lt_of_le}
use native.Mathlib.Omega.{arith}
use lib.ListN.{get_or, set, length-set, replicate, length-replicate}
use lib.Seq.{get_or-set_same, get_or-set_other}
use Rattle.tags.specs.Kept.{name_from}
use Rattle.paths.specs.Path.{Path}
use Rattle.matcher.specs.Fit.{fit_for}
use Rattle.matcher.specs.State.{fresh_state, deeper_of, state_of}
use Rattle.matcher.specs.declared.fit.Fit.{Fit}
use Rattle.matcher.specs.declared.state.MatchState.{MatchState}
use Rattle.matcher.proofs.AllPaths.{state_deeper}
use Rattle.trees.specs.Grown.{part}
use Rattle.output.specs.Levels.{name_at}
use Rattle.output.proofs.Chains.{name_part}
use Rattle.passes.proofs.States.{none, above, held_start}
use Rattle.seats.specs.Standing.{Standing}

pub standing_start : (ps : List Path) {m : MatchState} → m ≡ fresh_state → (d starts lens : List ℕ)
    → Standing ps (replicate 64 m) d starts lens 0
standing_start ps {m} e d starts lens =
    record { state = (held_start ps e d starts lens).state; long = length-replicate {A = MatchState} 64 m }

-- one level more
module _ {ps : List Path} {all : List MatchState} {d starts lens : List ℕ} {k : ℕ} (v : Standing ps all d starts lens k)
    (l : k + 1 < 64) {parent : MatchState} (ep : parent ≡ get_or all k none)
    {fit : Fit} (ef : fit ≡ fit_for ps (part d (get_or starts k 0) (get_or starts k 0 + get_or lens k 0)))
    {below : MatchState} (eb : below ≡ deeper_of parent fit) where
  name_is : part d (get_or starts k 0) (get_or starts k 0 + get_or lens k 0) ≡ name_at d starts lens (0 + k)
  unfolding name_at
  name_is =
      name_part d (get_or starts k 0) (get_or lens k 0)
      ∙ ap (λ (i : ℕ). name_from d (get_or starts i 0) (get_or lens i 0)) (sym (zero-add k))

  below_is : below ≡ state_of ps (above d starts lens (suc k))
  below_is =
      eb
      ∙ ap₂ deeper_of (ep ∙ v.state k (omega arith) (omega arith)) (ef ∙ ap (fit_for ps) name_is)
      ∙ sym (state_deeper ps (above d starts lens k) (name_at d starts lens (0 + k)))

  pub standing_next : Standing ps (set all (k + 1) below) d starts lens (k + 1)
  standing_next = record { state = go; long = length-set all (k + 1) below ∙ v.long }
    where
      go : (i : ℕ) → i ≤ k + 1 → i < 64 → get_or (set all (k + 1) below) i none ≡ state_of ps (above d starts lens i)
      go i h g =
          let le : i ≤ suc k = omega arith in
          let z : suc k ≡ k + 1 = omega arith in
          ⊎_elim
          (λ (q : i ≡ suc k). rw q (rw z (get_or-set_same all (k + 1) below none (omega (arith, v.long))) ∙ below_is))
          (λ (q : i < suc k).
          get_or-set_other all (k + 1) i below none (λ y. omega arith) ∙ v.state i (omega arith) g)
          (eq-or-lt_of_le le)

-- no element stands below level 64
pub standing_last : {ps : List Path} {all : List MatchState} {d starts lens : List ℕ} {k : ℕ} → Standing ps all d starts lens k
    → k + 1 ≡ 64 → (level : ℕ) → Standing ps all d starts lens level
standing_last v e level = record { state = λ i h g. v.state i (omega arith) g; long = v.long }

-- at no deeper level
pub standing_less : {ps : List Path} {all : List MatchState} {d starts lens : List ℕ} {k level : ℕ} → Standing ps all d starts lens k
    → level ≤ k → Standing ps all d starts lens level
standing_less v l = record { state = λ i h g. v.state i (omega arith) g; long = v.long }
