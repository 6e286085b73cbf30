-- From places to what is left: one step on, the end, and where a reading ends. Every scanner's loop asks for these, in this crate and in
-- those above it.
use mathlib.Core.Path.{◌≡◌, sym, ap, ◌∙◌}
use mathlib.Core.List.{List, [], ◌∷◌}
use Prim.Native.Nat.{ℕ, ◌+◌, ◌≤◌, ◌<◌}
use native.Mathlib.Numerals.{add-one}
use native.Mathlib.Omega.{arith}
use lib.ListN.{length, get_or, drop, drop_of_length-le, length-drop}
use lib.Seq.{drop-cons}
use Rattle.utf8.specs.Place.{ends_at, Stands}

-- one byte on
pub drop_step : (s : List ℕ) (i : ℕ) → i < length s → drop i s ≡ get_or s i 0 ∷ drop (i + 1) s
drop_step s i h = drop-cons s i 0 h ∙ ap (λ (k : ℕ). get_or s i 0 ∷ drop k s) (sym (add-one i))

-- at the end
pub drop_end : (s : List ℕ) (i : ℕ) → length s ≤ i → drop i s ≡ []
drop_end s i h = drop_of_length-le s h

-- a reading that leaves what stands at the place e ends there
pub stands_ends : {d : List ℕ} {e : ℕ} {t : List ℕ} (at : ℕ) → Stands d e t → at ≤ e → e ≡ ends_at d at t
unfolding ends_at
stands_ends {d} {e} {t} at p h =
    let q : length (drop e d) ≡ length t = ap length p.rest in
    let l : e ≤ length d = p.inside in
    omega (arith, length-drop at d, length-drop e d)

-- past the end nothing is left, and a reading ends where it began
pub past_ends : (d : List ℕ) (at : ℕ) (t : List ℕ) → length d ≤ at → t ≡ [] → at ≡ ends_at d at t
unfolding ends_at
past_ends d at t h e = omega (arith, length-drop at d, ap length e)

-- what is left stands at one place
pub stands_one : {d : List ℕ} {e e' : ℕ} {t : List ℕ} → Stands d e t → Stands d e' t → e ≡ e'
stands_one {d} {e} {e'} p q =
    let l : length (drop e d) ≡ length (drop e' d) = ap length (p.rest ∙ sym q.rest) in
    let a : e ≤ length d = p.inside in
    let b : e' ≤ length d = q.inside in
    omega (arith, length-drop e d, length-drop e' d)
