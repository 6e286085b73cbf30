-- Readers put together decide productions put together, where only characters are left and on any bytes alike (`Rest`): a reader that
-- needs no characters is put together of such. In order: a text; what is left stays characters; A B where A is a text, A | B where
-- the readers never both give something; productions that read the same.
use mathlib.Core.Path.{◌≡◌, refl, sym, ap, ◌∙◌}
use mathlib.Core.Bool.{Bool, true, false, cond, ◌&&◌}
use mathlib.Core.List.{List, [], ◌∷◌, ◌++◌}
use mathlib.Core.Logic.{inl, inr}
use mathlib.Core.Option.{Option, none, some, none-ne-some, some-injective}
use Prim.Native.Nat.{ℕ, ◌<◌}
use native.Mathlib.Omega.{arith}
use lib.ListN.{length, drop, length-append}
use lib.Seq.{drop-append_seam}
use lib.Dec.{ltb}
use borrow.Author.Tests.{ltb-true}
use Rattle.xml.specs.Notation.{Rule, Reads, Star, done, more, lit, char, such, ◌⨾◌, ◌∖◌, ◌∣◌, ◌∗}
use Rattle.xml.specs.Utf8.{utf8}
use Rattle.xml.specs.Character.{begins}
use Rattle.xml.proofs.Bools.{and_left, and_right}
use Rattle.xml.proofs.Utf8.{utf8_long}
use Rattle.xml.proofs.Character.{begins_append, begins_split, utf8_once, low_first}
use Rattle.readers.specs.Read.{and_then, or_else, expect}
use Rattle.readers.specs.Meaning.{Chars, Rest, characters, anything, Holds, DecidesOn}

-- ---- a text

pub lit_complete : (w s t : List ℕ) → s ≡ w ++ t → expect w s ≡ some t
unfolding expect
lit_complete w s t e = rw (e, begins_append w t, drop-append_seam w t)

pub lit_sound : (w s t : List ℕ) → expect w s ≡ some t → s ≡ w ++ t
unfolding expect
lit_sound w s t e = go (begins w s) refl e
  where
    go : (b : Bool) → begins w s ≡ b → cond b (some (drop (length w) s)) none ≡ some t → s ≡ w ++ t
    go true h k = begins_split w s h ∙ ap (λ (l : List ℕ). w ++ l) (some-injective _ _ k)
    go false h k = absurd (none-ne-some t k)

pub lit_decides : {o : Rest} (w : List ℕ) → DecidesOn o (lit w) (expect w)
lit_decides w = record { sound = λ {s} {t} d e. lit_sound w s t e; complete = λ {s} {t} d e. lit_complete w s t e }

-- ---- what is left stays characters: texts of rules are ASCII

abbrev pub all_low : List ℕ → Bool
all_low [] = true
all_low (x ∷ w) = ltb x 0x80 && all_low w

chars_tail : (x : ℕ) {s : List ℕ} → x < 0x80 → Chars (x ∷ s) → Chars s
chars_tail x {s} l (more (c, k, p, e) d) = rw (low_first l k e).1 d

pub chars_drop : (w s : List ℕ) → all_low w ≡ true → Chars (w ++ s) → Chars s
chars_drop [] s l d = d
chars_drop (x ∷ w) s l d =
    chars_drop w s (and_right (ltb x 0x80) _ l) (chars_tail x (ltb-true x 0x80 (and_left (ltb x 0x80) _ l)) d)

pub chars_char : (p : ℕ → Bool) {s t : List ℕ} → Chars s → Reads (char p) s t → Chars t
chars_char p {t = t} done (c, k, h, e) =
    absurd (let z = utf8_long c in let y = ap length e ∙ length-append (utf8 c) t in omega arith)
chars_char p (more (c, k, q, e) d) (c', k', h, e') = rw (← (utf8_once k k' (sym e ∙ e')).1) d

-- the texts in a rule are ASCII
abbrev pub Ascii : Rule → Type 0
Ascii (lit w) = all_low w ≡ true
Ascii (char p) = Unit {0}
Ascii (a ⨾ b) = Ascii a × Ascii b
Ascii (a ∖ b) = Ascii a
Ascii (a ∣ b) = Ascii a × Ascii b
Ascii (a ∗) = Ascii a
Ascii (such a p) = Ascii a

pub chars_left : (r : Rule) → Ascii r → (s t : List ℕ) → Chars s → Reads r s t → Chars t
chars_left (lit w) g s t d e = chars_drop w t g (rw e at d)
chars_left (char p) g s t d r = chars_char p d r
chars_left (a ⨾ b) g s t d (m, x, y) = chars_left b g.1 m t (chars_left a g.0 s m d x) y
chars_left (a ∖ b) g s t d (x, n) = chars_left a g s t d x
chars_left (a ∣ b) g s t d (inl x) = chars_left a g.0 s t d x
chars_left (a ∣ b) g s t d (inr x) = chars_left b g.1 s t d x
chars_left (a ∗) g s t d x = go (chars_left a g) d x
  where
    go : {s t : List ℕ} → ((s t : List ℕ) → Chars s → Reads a s t → Chars t) → Chars s → Star (Reads a) s t → Chars t
    go f d done = d
    go f d (more {s = s} {m = m} r rs) = go f (f s m d r) rs
chars_left (such a p) g s t d (w, e, h, x) = chars_left a g s t d x

-- of what holds where a reader is asked
pub rest_left : (o : Rest) (r : Rule) → Ascii r → (s t : List ℕ) → Holds o s → Reads r s t → Holds o t
rest_left characters r g s t d x = chars_left r g s t d x
rest_left anything r g s t d x = tt

-- ---- A B

-- what two readers one after the other gave, taken apart
pub then_some : {A B : Type 0} (o : Option A) (f : A → Option B) (t : B) → and_then o f ≡ some t → (m : A) × (o ≡ some m) × (f m ≡ some t)
then_some none f t e = absurd (none-ne-some t e)
then_some (some m) f t e = (m, refl, e)

-- A B, where A's reader decides A
pub seq_decides : {o : Rest} {a b : Rule} {f g : List ℕ → Option (List ℕ)} → Ascii a → DecidesOn o a f → DecidesOn o b g
    → DecidesOn o (a ⨾ b) (λ s. and_then (f s) g)
seq_decides {o} {a} {b} {f} {g} l da db =
    record {
      sound = λ {s} {t} d e.
          let w = then_some (f s) g t e in
          let x = da.sound d w.1 in
          (w.0, x, db.sound (rest_left o a l s w.0 d x) w.2);
      complete = λ {s} {t} d (m, x, y). rw (da.complete d x) (db.complete (rest_left o a l s m d x) y);
    }

-- 'text' A
pub lit_then : {o : Rest} (w : List ℕ) {r : Rule} {f : List ℕ → Option (List ℕ)} → all_low w ≡ true → DecidesOn o r f
    → DecidesOn o (lit w ⨾ r) (λ s. and_then (expect w s) f)
lit_then w l k = seq_decides l (lit_decides w) k

-- ---- A | B

-- the readers never both give something
pub record Apart (f g : List ℕ → Option (List ℕ)) : Type 0 where
  pub apart : (s t : List ℕ) → f s ≡ some t → g s ≡ none

pub alt_decides : {o : Rest} {a b : Rule} {f g : List ℕ → Option (List ℕ)} → DecidesOn o a f → DecidesOn o b g → Apart f g
    → DecidesOn o (a ∣ b) (λ s. or_else (f s) (g s))
alt_decides {o} {a} {b} {f} {g} da db n =
    record {
      sound = λ {s} {t} d e. from (f s) refl d e;
      complete = λ {s} {t} d. elim [ inl r ↦ rw (da.complete d r) | inr r ↦ to (f s) refl (db.complete d r) ];
    }
  where
    from : {s t : List ℕ} (k : Option (List ℕ)) → f s ≡ k → Holds o s → or_else k (g s) ≡ some t → Reads (a ∣ b) s t
    from none q d e = inr (db.sound d e)
    from (some m) q d e = inl (da.sound d (q ∙ e))

    to : {s t : List ℕ} (k : Option (List ℕ)) → f s ≡ k → g s ≡ some t → or_else k (g s) ≡ some t
    to none q e = e
    to {s} {t} (some m) q e = absurd (none-ne-some t (sym (n.apart s m q) ∙ e))

pub apart_sym : {f g : List ℕ → Option (List ℕ)} → Apart f g → Apart g f
apart_sym {f} {g} p = record { apart = λ s t e. go s t (f s) refl e }
  where
    go : (s t : List ℕ) (o : Option (List ℕ)) → f s ≡ o → g s ≡ some t → o ≡ none
    go s t none e k = refl
    go s t (some m) e k = absurd (none-ne-some t (sym (p.apart s m e) ∙ k))

-- ---- productions that read the same

pub same_decides : {o : Rest} {a b : Rule} {f : List ℕ → Option (List ℕ)} → ((s t : List ℕ) → Reads a s t → Reads b s t)
    → ((s t : List ℕ) → Reads b s t → Reads a s t) → DecidesOn o a f → DecidesOn o b f
same_decides to from k =
    record { sound = λ {s} {t} d e. to s t (k.sound d e); complete = λ {s} {t} d x. k.complete d (from s t x) }

-- a production that a reader decides ends at one place
pub ends_once : {r : Rule} {f : List ℕ → Option (List ℕ)} → DecidesOn characters r f → {s t t' : List ℕ} → Chars s → Reads r s t
    → Reads r s t' → t ≡ t'
ends_once k {t = t} {t' = t'} d x y = some-injective t t' (sym (k.complete d x) ∙ k.complete d y)
