-- What readers leave is an end of what they are given, on every byte string. In order: ends, and shorter ends; what stands before an end;
-- texts and `seek`; readers put together; white space, names, [25] Eq; and the place where what is left stands.
-- Readers that leave a shorter end are in proofs/Many, proofs/Shorter and proofs/Value.
use mathlib.Core.Path.{◌≡◌, refl, sym, ap, ◌∙◌}
use mathlib.Core.Bool.{Bool, true, false, cond}
use mathlib.Core.List.{List, [], ◌∷◌, ◌++◌, append_assoc}
use mathlib.Core.Option.{Option, none, some, none-ne-some, some-injective}
use Prim.Native.Nat.{ℕ, ◌+◌, ◌-◌, ◌≤◌, ◌<◌}
use native.Mathlib.Omega.{arith}
use lib.ListN.{length, drop, length-append, length-drop}
use lib.Seq.{take-append_seam, drop_at, drop-drop}
use Rattle.xml.specs.Notation.{bytes}
use Rattle.xml.specs.Productions.{is_space, is_name_start, is_name}
use Rattle.xml.specs.Character.{begins, starts, run}
use Rattle.xml.proofs.Run.{run_suffix}
use Rattle.utf8.specs.Place.{ends_at, Stands}
use Rattle.chars.specs.Name.{name_of}
use Rattle.readers.specs.Read.{and_then, or_else, or_stay, expect, seek, skip, space_of}
use Rattle.readers.specs.Named.{before, eq_of}
use Rattle.readers.proofs.Combine.{then_some, lit_sound}

-- ---- ends

-- t is an end of s
abbrev pub End : List ℕ → List ℕ → Type 0
End s t = (w : List ℕ) × (s ≡ w ++ t)

-- and a shorter one
abbrev pub Shorter : List ℕ → List ℕ → Type 0
Shorter s t = (w : List ℕ) × (s ≡ w ++ t) × (0 < length w)

pub shorter_end : {s t : List ℕ} → Shorter s t → End s t
shorter_end (w, e, h) = (w, e)

pub shorter_length : {s t : List ℕ} → Shorter s t → length t < length s
shorter_length {t = t} (w, e, h) = rw e (omega (arith, length-append w t))

ends_join : {s m : List ℕ} (v w t : List ℕ) → s ≡ v ++ m → m ≡ w ++ t → s ≡ (v ++ w) ++ t
ends_join v w t p q = p ∙ ap (λ (l : List ℕ). v ++ l) q ∙ sym (append_assoc v w t)

pub end_more : {s m t : List ℕ} → End s m → End m t → End s t
end_more {t = t} (v, p) (w, q) = (v ++ w, ends_join v w t p q)

-- nothing shorter is left past the end
pub shorter_place : (d : List ℕ) (at : ℕ) {t : List ℕ} → Shorter (drop at d) t → at ≤ length d
shorter_place d at k = omega (arith, shorter_length k, length-drop at d)

pub shorter_more : {s m t : List ℕ} → Shorter s m → End m t → Shorter s t
shorter_more {t = t} (v, p, h) (w, q) = (v ++ w, ends_join v w t p q, omega (arith, length-append v w))

pub end_shorter : {s m t : List ℕ} → End s m → Shorter m t → Shorter s t
end_shorter {t = t} (v, p) (w, q, h) = (v ++ w, ends_join v w t p q, omega (arith, length-append v w))

-- ---- what stands before an end

pub before_is : {s : List ℕ} (w t : List ℕ) → s ≡ w ++ t → before s t ≡ w
unfolding before
before_is {s} w t e =
    let n : length s - length t ≡ length w = let z = ap length e ∙ length-append w t in omega arith in
    rw (n, e) (take-append_seam w t)

pub before_split : {s t : List ℕ} → End s t → s ≡ before s t ++ t
before_split {s} {t} (w, e) = sym (rw (before_is w t e, e))

-- ---- texts and `seek`

-- f leaves an end of what it is given
pub record Leaves (f : List ℕ → Option (List ℕ)) : Type 0 where
  pub ends : (s t : List ℕ) → f s ≡ some t → End s t

pub lit_leaves : (w : List ℕ) → Leaves (expect w)
lit_leaves w = record { ends = λ s t e. (w, lit_sound w s t e) }

pub skip_end : (s : List ℕ) → End s (skip s)
unfolding skip
skip_end = run_suffix is_space

pub seek_end : (w s : List ℕ) → End s (seek w s)
unfolding seek
seek_end w [] = ([], refl)
seek_end w (b ∷ s) = go (begins w (b ∷ s)) (seek_end w s)
  where
    go : (x : Bool) → End s (seek w s) → End (b ∷ s) (cond x (b ∷ s) (seek w s))
    go true (v, e) = ([], refl)
    go false (v, e) = (b ∷ v, ap (λ (l : List ℕ). b ∷ l) e)

-- ---- readers put together

module _ {f g : List ℕ → Option (List ℕ)} (k : Leaves f) (n : Leaves g) where
  pub then_leaves : Leaves (λ s. and_then (f s) g)
  then_leaves =
      record { ends = λ s t e. let (m, p, q) = then_some (f s) g t e in end_more (k.ends s m p) (n.ends m t q) }

  pub or_leaves : Leaves (λ s. or_else (f s) (g s))
  or_leaves = record { ends = λ s t e. go s t (f s) refl e }
    where
      go : (s t : List ℕ) (o : Option (List ℕ)) → f s ≡ o → or_else o (g s) ≡ some t → End s t
      go s t none p e = n.ends s t e
      go s t (some m) p e = k.ends s t (p ∙ e)

module _ {g : List ℕ → List ℕ} (n : (s : List ℕ) → End s (g s)) where
  pub some_leaves : Leaves (λ s. some (g s))
  some_leaves = record { ends = λ s t e. rw (← some-injective (g s) t e) (n s) }

  -- f on what g leaves
  pub after_leaves : {f : List ℕ → Option (List ℕ)} → Leaves f → Leaves (λ s. f (g s))
  after_leaves k = record { ends = λ s t e. end_more (n s) (k.ends (g s) t e) }

-- f where a test holds
pub if_leaves : (x : List ℕ → Bool) {f : List ℕ → Option (List ℕ)} → Leaves f → Leaves (λ s. cond (x s) (f s) none)
if_leaves x {f} k = record { ends = λ s t e. go s t (x s) e }
  where
    go : (s t : List ℕ) (b : Bool) → cond b (f s) none ≡ some t → End s t
    go s t true e = k.ends s t e
    go s t false e = absurd (none-ne-some t e)

pub led_leaves : (p q : ℕ → Bool) → Leaves (λ s. cond (starts p s) (some (run q 0 s)) none)
led_leaves p q = if_leaves (starts p) (some_leaves (run_suffix q))

-- where f reads nothing, all stays
pub stay_end : {f : List ℕ → Option (List ℕ)} → Leaves f → (s : List ℕ) → End s (or_stay (f s) s)
stay_end {f} k s = go (f s) refl
  where
    go : (o : Option (List ℕ)) → f s ≡ o → End s (or_stay o s)
    go none e = ([], refl)
    go (some t) e = k.ends s t e

-- ---- white space, names, [25] Eq

pub space_leaves : Leaves space_of
unfolding space_of skip
space_leaves = led_leaves is_space is_space

pub name_leaves : Leaves name_of
unfolding name_of
name_leaves = led_leaves is_name_start is_name

pub eq_leaves : Leaves eq_of
unfolding eq_of
eq_leaves = after_leaves skip_end (then_leaves (lit_leaves (bytes "=")) (some_leaves skip_end))

-- ---- in places

-- at the place answered stands what is left
pub end_stands : (d : List ℕ) (at : ℕ) {t : List ℕ} → at ≤ length d → End (drop at d) t → Stands d (ends_at d at t) t
unfolding ends_at
end_stands d at {t} l (w, q) =
    let k = length (drop at d) - length t in
    let z : length (drop at d) ≡ length w + length t = ap length q ∙ length-append w t in
    record {
      rest = sym (drop-drop k at d) ∙ ap (drop k) q ∙ drop_at w t k (omega arith);
      inside = omega (arith, length-drop at d);
    }

pub end_ahead : (d : List ℕ) (at : ℕ) (t : List ℕ) → at ≤ ends_at d at t
unfolding ends_at
end_ahead d at t = omega arith
