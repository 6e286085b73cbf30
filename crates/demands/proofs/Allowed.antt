-- A rule made of characters of [2] derives nothing but such characters. In order: ranges that lie in others; one star after the other;
-- texts; `Allowed`, of a rule whose texts are printable ASCII and whose classes lie in [2], but for what `∖` takes away; `allowed_chars`.
-- Productions.antt has which productions are allowed, Characters.antt what follows for the document.
use mathlib.Core.Path.{◌≡◌, refl, sym}
use mathlib.Core.Bool.{Bool, true, false, ◌&&◌, ◌||◌, false≢true}
use mathlib.Core.List.{List, [], ◌∷◌, ◌++◌}
use mathlib.Core.Logic.{◌⊎◌, inl, inr}
use Prim.Native.Nat.{ℕ}
use native.Mathlib.Omega.{arith}
use lib.Dec.{leb}
use borrow.Author.Tests.{leb-true}
use Rattle.xml.specs.Range.{Range, ◌–◌, inside, within}
use Rattle.xml.specs.Notation.{Rule, Reads, Star, done, more, lit, char, such, ◌⨾◌, ◌∖◌, ◌∣◌, ◌∗}
use Rattle.xml.specs.Productions.{Char, is_char}
use Rattle.xml.proofs.Bools.{and_left, and_right, or_either, or_left, or_right, inside_bounds, bounds_inside}
use Rattle.xml.proofs.Borders.{char_basic}
use Rattle.xml.proofs.Utf8.{scalar_ascii, utf8_low}

-- ---- ranges

abbrev wider : Range → Range → Bool
wider q r = leb q.low r.low && leb r.high q.high

wider-inside : (q r : Range) (c : ℕ) → wider q r ≡ true → inside r c ≡ true → inside q c ≡ true
wider-inside q r c e i =
    let (l, h) = inside_bounds r c i in
    let a = leb-true q.low r.low (and_left (leb q.low r.low) _ e) in
    let b = leb-true r.high q.high (and_right (leb q.low r.low) _ e) in
    bounds_inside q c (omega arith) (omega arith)

-- the range lies in one of the ranges; and each of a list does
abbrev covered : List Range → Range → Bool
covered [] r = false
covered (q ∷ qs) r = wider q r || covered qs r

abbrev pub all_covered : List Range → List Range → Bool
all_covered qs [] = true
all_covered qs (r ∷ rs) = covered qs r && all_covered qs rs

covered-within : (qs : List Range) (r : Range) (c : ℕ) → covered qs r ≡ true → inside r c ≡ true → within qs c ≡ true
covered-within [] r c e i = absurd (false≢true e)
covered-within (q ∷ qs) r c e i = go (or_either (wider q r) _ e) (λ h. covered-within qs r c h i)
  where
    go : (wider q r ≡ true) ⊎ (covered qs r ≡ true) → (covered qs r ≡ true → within qs c ≡ true) → inside q c || within qs c ≡ true
    go (inl h) f = or_left (inside q c) _ (wider-inside q r c h i)
    go (inr h) f = or_right (inside q c) _ (f h)

pub within_covered : (qs rs : List Range) → all_covered qs rs ≡ true → (c : ℕ) → within rs c ≡ true → within qs c ≡ true
within_covered qs [] e c i = absurd (false≢true i)
within_covered qs (r ∷ rs) e c i = go (or_either (inside r c) _ i) (within_covered qs rs (and_right (covered qs r) _ e) c)
  where
    go : (inside r c ≡ true) ⊎ (within rs c ≡ true) → (within rs c ≡ true → within qs c ≡ true) → within qs c ≡ true
    go (inl h) f = covered-within qs r c (and_left (covered qs r) _ e) h
    go (inr h) f = f h

-- ---- one after the other

pub star_then : {R : List ℕ → List ℕ → Type 0} {s m t : List ℕ} → Star R s m → Star R m t → Star R s t
star_then done y = y
star_then (more x xs) y = more x (star_then xs y)

-- ---- texts

abbrev pub printable : List ℕ → Bool
printable [] = true
printable (x ∷ w) = inside (0x20 – 0x7F) x && printable w

printable_chars : (w t : List ℕ) → printable w ≡ true → Star (Reads Char) (w ++ t) t
printable_chars [] t e = done
printable_chars (x ∷ w) t e =
    let (l, h) = inside_bounds (0x20 – 0x7F) x (and_left (inside (0x20 – 0x7F) x) _ e) in
    more {s = x ∷ w ++ t} {m = w ++ t}
    (x, scalar_ascii x (omega arith), sym (char_basic l (omega arith)), rw (utf8_low x (omega arith)) refl)
    (printable_chars w t (and_right (inside (0x20 – 0x7F) x) _ e))

-- ---- rules

-- a class of characters of [2]
abbrev pub OfChars : (ℕ → Bool) → Type 0
OfChars p = (c : ℕ) → p c ≡ true → is_char c ≡ true

abbrev pub Allowed : Rule → Type 0
Allowed (lit w) = printable w ≡ true
Allowed (char p) = OfChars p
Allowed (a ⨾ b) = Allowed a × Allowed b
Allowed (a ∖ b) = Allowed a
Allowed (a ∣ b) = Allowed a × Allowed b
Allowed (a ∗) = Allowed a
Allowed (such a p) = Allowed a

star_chars : {R : List ℕ → List ℕ → Type 0} → ((s t : List ℕ) → R s t → Star (Reads Char) s t) → {s t : List ℕ} → Star R s t
    → Star (Reads Char) s t
star_chars f done = done
star_chars f (more {s = s} {m = m} x xs) = star_then (f s m x) (star_chars f xs)

pub allowed_chars : (r : Rule) → Allowed r → (s t : List ℕ) → Reads r s t → Star (Reads Char) s t
allowed_chars (lit w) g s t e = rw e (printable_chars w t g)
allowed_chars (char p) g s t (c, k, h, e) = more (c, k, g c h, e) done
allowed_chars (a ⨾ b) g s t (m, x, y) = star_then (allowed_chars a g.0 s m x) (allowed_chars b g.1 m t y)
allowed_chars (a ∖ b) g s t (x, n) = allowed_chars a g s t x
allowed_chars (a ∣ b) g s t (inl x) = allowed_chars a g.0 s t x
allowed_chars (a ∣ b) g s t (inr x) = allowed_chars b g.1 s t x
allowed_chars (a ∗) g s t x = star_chars (allowed_chars a g) x
allowed_chars (such a p) g s t (w, e, h, x) = allowed_chars a g s t x
