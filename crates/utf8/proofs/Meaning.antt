-- `sequence_at` gives an answer that says what specs/Meaning.antt has (`sequence_says`), and no other answer says it (`sequence_only`):
-- what stands at a place is one character, and ends at one place.
use mathlib.Core.Path.{◌≡◌, refl, sym, ap, ◌∙◌}
use mathlib.Core.List.{List, ◌++◌}
use mathlib.Core.Option.{Option as Maybe, none, some}
use Prim.Native.Nat.{ℕ, ◌+◌, ◌≤◌, ◌<◌}
use native.Mathlib.Omega.{arith}
use lib.ListN.{length, drop, length-drop, length-append}
use lib.Seq.{drop-drop}
use Rattle.xml.specs.Utf8.{utf8}
use Rattle.xml.specs.Character.{character}
use Rattle.xml.proofs.Utf8.{utf8_long}
use Rattle.xml.proofs.Character.{character_none, character_scalar, character_split, utf8_once}
use Rattle.utf8.specs.Sequence.{point_at, sequence_at}
use Rattle.utf8.specs.Meaning.{SequenceSays}
use Rattle.std.specs.Prelude.{Option, Some, None}

-- places that leave the same are the same
same_place : (d : List ℕ) (e e' : ℕ) → e ≤ length d → e' ≤ length d → drop e d ≡ drop e' d → e ≡ e'
same_place d e e' h h' q = omega (arith, length-drop e d, length-drop e' d, ap length q)

at_width : (d : List ℕ) (at : ℕ) (w t : List ℕ) → 0 < length w → drop at d ≡ w ++ t → at + length w ≤ length d
at_width d at w t h e =
    let n = ap length e ∙ length-append w t in
    omega (arith, length-drop at d)

pub sequence_says : (d : List ℕ) (at : ℕ) → SequenceSays d at (sequence_at d at)
unfolding sequence_at
sequence_says d at = go (character (drop at d)) refl
  where
    go : (o : Maybe ℕ) → character (drop at d) ≡ o → SequenceSays d at (point_at at o)
    go none e = λ c t h q. character_none (drop at d) e c t h q
    go (some c) e =
        let s = character_split (drop at d) c e in
        (character_scalar (drop at d) c e, s ∙ rw drop-drop, at_width d at (utf8 c) _ (utf8_long c) s)

pub sequence_only : (d : List ℕ) (at : ℕ) (r r' : Option (ℕ × ℕ)) → SequenceSays d at r → SequenceSays d at r' → r ≡ r'
sequence_only d at None None p q = refl
sequence_only d at None (Some (c, e)) p (h, s, l) = absurd (p c (drop e d) h s)
sequence_only d at (Some (c, e)) None (h, s, l) q = absurd (q c (drop e d) h s)
sequence_only d at (Some (c, e)) (Some (c', e')) (h, s, l) (h', s', l') =
    let (a, b) = utf8_once h h' (sym s ∙ s') in
    rw (a, same_place d e e' l l' b)
