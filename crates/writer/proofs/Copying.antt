-- `copy`: of the bytes that there is room for, the first i are laid.
-- Then all of those are laid, and what is left of the text is past the buffer's end.
use mathlib.Core.Path.{◌≡◌, refl, sym, ◌∙◌}
use mathlib.Core.List.{List, [], ◌∷◌}
use mathlib.Core.Logic.{⊎_elim}
use Prim.Native.Nat.{ℕ, ◌+◌, ◌-◌, ◌≤◌, ◌<◌, min}
use native.Mathlib.Nat.{eq-or-lt_of_le}
use native.Mathlib.Omega.{arith}
use lib.ListN.{length, get_or, take, drop, set, take-append-drop}
use lib.Seq.{sets, length-sets, take_all, length-take-le}
use Rattle.std.proofs.lemmas.List.{take_more}
use Rattle.writer.specs.Wrote.{Wrote}
use Rattle.writer.proofs.Laying.{sets_more, sets_past}

-- one byte more
pub laid_next : (o o' s : List ℕ) (at i : ℕ) → o' ≡ sets o at (take i s) → i < length s
    → set o' (at + i) (get_or s i 0) ≡ sets o at (take (i + 1) s)
laid_next o o' s at i e h =
    let li : length (take i s) ≡ i = length-take-le i s (omega arith) in
    rw (e, take_more s i 0 h) (rw li at (sets_more (take i s) (get_or s i 0 ∷ []) o at))

-- all that there is room for
pub laid_room : (o o' s : List ℕ) (at i room n : ℕ) → o' ≡ sets o at (take i (take room s)) → length (take room s) ≤ i
    → room ≡ min (length s) n → n ≡ length o - at → Wrote o at s (at + length s) o'
laid_room o o' s at i room n e h r q =
    record { long = refl; laid = rw (e, take_all i (take room s) h) (⊎_elim all some (eq-or-lt_of_le le)) }
  where
    le : room ≤ length s
    le = omega arith

    all : room ≡ length s → sets o at (take room s) ≡ sets o at s
    all z = rw (take_all room s (omega arith))

    some : room < length s → sets o at (take room s) ≡ sets o at s
    some z =
        let l : length (take room s) ≡ room = length-take-le room s le in
        sym (sets_past (drop room s) (sets o at (take room s)) (at + length (take room s)) (omega (arith, length-sets o at (take room s))))
        ∙ sets_more (take room s) (drop room s) o at
        ∙ rw take-append-drop

pub ruleset copying = (laid_next, laid_room)
