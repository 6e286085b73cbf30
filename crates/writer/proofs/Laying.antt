-- Laws of text laid into a buffer: nothing, one text after another, past the end, all of it where there is room; and tags of a name.
-- A result is one: `wrote_one`.
use mathlib.Core.Path.{◌≡◌, refl, sym, ap, ◌∙◌}
use mathlib.Core.List.{List, [], ◌∷◌, ◌++◌}
use Prim.Native.Nat.{ℕ, suc, ◌+◌, ◌≤◌}
use native.Mathlib.Nat.{add-zero}
use native.Mathlib.Omega.{arith}
use lib.ListN.{length, drop, set, length-append}
use lib.Seq.{sets, set_out, length-sets, sets-eq}
use Rattle.xml.specs.Forest.{start_tag, end_tag}
use Rattle.writer.specs.Wrote.{Wrote}

pub sets_more : (s t o : List ℕ) (at : ℕ) → sets (sets o at s) (at + length s) t ≡ sets o at (s ++ t)
sets_more [] t o at = rw add-zero
sets_more (x ∷ s) t o at =
    let q : at + suc (length s) ≡ suc at + length s = omega arith in
    rw q (sets_more s t (set o at x) (suc at))

-- past the end nothing is laid
pub sets_past : (s o : List ℕ) (at : ℕ) → length o ≤ at → sets o at s ≡ o
sets_past [] o at h = refl
sets_past (x ∷ s) o at h = rw (set_out o at x h) (sets_past s o (suc at) (omega arith))

pub wrote_none : {o : List ℕ} {at : ℕ} → Wrote o at [] at o
wrote_none = record { long = omega arith; laid = refl }

pub wrote_past : {o : List ℕ} {at : ℕ} (s : List ℕ) → length o ≤ at → Wrote o at s (at + length s) o
wrote_past {o} {at} s h = record { long = refl; laid = sym (sets_past s o at h) }

-- one text after another
pub wrote_more : {o o₁ o₂ s t : List ℕ} {at a b : ℕ} → Wrote o at s a o₁ → Wrote o₁ a t b o₂ → Wrote o at (s ++ t) b o₂
wrote_more {o} {s = s} {t} {at} p q =
    record {
      long = omega (arith, p.long, q.long, length-append s t);
      laid = q.laid ∙ rw (p.laid, p.long) (sets_more s t o at);
    }

pub wrote_long : {o o' s : List ℕ} {at r : ℕ} → Wrote o at s r o' → length o' ≡ length o
wrote_long {o} {s = s} {at} w = ap length w.laid ∙ length-sets o at s

-- all of it, where there is room
pub laid_whole : (w o : List ℕ) → length w ≤ length o → sets o 0 w ≡ w ++ drop (length w) o
laid_whole w o h =
    let q : 0 + length w ≡ length w = omega arith in
    rw q at (sets-eq w o 0 (omega arith))

-- ---- one byte, and tags

pub put_past : {o : List ℕ} {at b : ℕ} → length o ≤ at → Wrote o at (b ∷ []) (at + 1) o
put_past {o} {at} {b} h = wrote_past (b ∷ []) h

pub wrote_start : {o o₁ o₂ o₃ n : List ℕ} {at a b e : ℕ} → Wrote o at (60 ∷ []) a o₁ → Wrote o₁ a n b o₂ → Wrote o₂ b (62 ∷ []) e o₃
    → Wrote o at (start_tag n) e o₃
wrote_start p q r = wrote_more p (wrote_more q r)

pub wrote_end : {o o₁ o₂ o₃ o₄ n : List ℕ} {at a b e f : ℕ} → Wrote o at (60 ∷ []) a o₁ → Wrote o₁ a (47 ∷ []) b o₂
    → Wrote o₂ b n e o₃ → Wrote o₃ e (62 ∷ []) f o₄ → Wrote o at (end_tag n) f o₄
wrote_end p q r t = wrote_more p (wrote_more q (wrote_more r t))

pub ruleset laying = (put_past, wrote_past, wrote_start, wrote_end)
