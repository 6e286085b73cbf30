-- What the kinds share, `below_moves`: a step's place by its kind is its place by the three tests of the kind. The only proof by the kinds'
-- names.
use mathlib.Core.Path.{◌≡◌, refl}
use mathlib.Core.Bool.{true, false≢true, true≢false}
use mathlib.Core.Logic.{◌↔◌}
use Prim.Native.Nat.{ℕ, zero, suc, ◌+◌, ◌-◌}
use native.Mathlib.Omega.{arith}
use Rattle.paths.specs.declared.Kind.{Kind}
use Rattle.paths.specs.declared.Kind.TheVariants.{Child, Descendant, SelfStep, DescendantOrSelf}
use Rattle.compiled.specs.Kinds.{stays, goes, far}
use Rattle.matcher.specs.Select.{Below}
use Rattle.matcher.specs.Moves.{Moves, same, down}

below_moved : (k : Kind) (b p : ℕ) → Below k b p → Moves (stays k) (goes k) (far k) b p
below_moved Child b p h = down refl (omega arith) (λ e. h)
below_moved Descendant b p h = down refl (omega arith) (λ e. absurd (true≢false e))
below_moved SelfStep b p h = same refl h.0 h.1
below_moved DescendantOrSelf b p h = go (p - b) (let l = h.0 in omega arith)
  where
    go : (d : ℕ) → p ≡ b + d → Moves true true true b p
    go zero e = same refl (omega arith) h.1
    go (suc d) e = down refl (omega arith) (λ q. absurd (true≢false q))

moved_below : (k : Kind) (b p : ℕ) → Moves (stays k) (goes k) (far k) b p → Below k b p
moved_below Child b p (same s e z) = absurd (false≢true s)
moved_below Child b p (down g l n) = n refl
moved_below Descendant b p (same s e z) = absurd (false≢true s)
moved_below Descendant b p (down g l n) = omega arith
moved_below SelfStep b p (same s e z) = (e, z)
moved_below SelfStep b p (down g l n) = absurd (false≢true g)
moved_below DescendantOrSelf b p (same s e z) = (omega arith, z)
moved_below DescendantOrSelf b p (down g l n) = (omega arith, omega arith)

pub below_moves : (k : Kind) (b p : ℕ) → Below k b p ↔ Moves (stays k) (goes k) (far k) b p
below_moves k b p = (below_moved k b p, moved_below k b p)
