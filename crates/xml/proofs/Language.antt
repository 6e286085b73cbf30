-- `Reads` is the ordinary meaning of XML's notation: `Reads r s t` says that s is w and then t, for a text w of the rule's language.
-- In order: repeating; the two directions, which need each other at `∖`; what follows: what is left is a suffix, and no longer, and
-- does not matter.
use mathlib.Core.Path.{◌≡◌, refl, sym, ◌∙◌}
use mathlib.Core.List.{List, [], ◌++◌, append_assoc, append_cancel_right}
use mathlib.Core.Logic.{inl, inr}
use Prim.Native.Nat.{ℕ, ◌≤◌}
use native.Mathlib.Omega.{arith}
use lib.ListN.{length, length-append}
use Rattle.xml.specs.Utf8.{utf8}
use Rattle.xml.specs.Notation.{Rule, lit, char, ◌⨾◌, ◌∖◌, ◌∣◌, ◌∗, such, Reads, Star, done, more}
use Rattle.xml.specs.Language.{Language, Repeats, empty, joined}

-- s is a text of L and then t
abbrev Front : (List ℕ → Type 0) → List ℕ → List ℕ → Type 0
Front L s t = (w : List ℕ) × (s ≡ w ++ t) × L w

join : (u v t : List ℕ) {s m : List ℕ} → s ≡ u ++ m → m ≡ v ++ t → s ≡ (u ++ v) ++ t
join u v t p q = simp (p, q, append_assoc)

module _ {R : List ℕ → List ℕ → Type 0} {L : List ℕ → Type 0} where
  star_repeats : ((s t : List ℕ) → R s t → Front L s t) → {s t : List ℕ} → Star R s t → Front (Repeats L) s t
  star_repeats f done = ([], refl, empty)
  star_repeats f {s} {t} (more {m = m} x xs) =
      let (u, p, l) = f s m x in
      let (v, q, ls) = star_repeats f xs in
      (u ++ v, join u v t p q, joined l ls)

  repeats_star : ((w t : List ℕ) → L w → R (w ++ t) t) → {w : List ℕ} (t : List ℕ) → Repeats L w → Star R (w ++ t) t
  repeats_star f t empty = done
  repeats_star f t (joined {u = u} {v = v} l ls) = rw append_assoc (more (f u (v ++ t) l) (repeats_star f t ls))

mutual
  pub reads_language : (r : Rule) (s t : List ℕ) → Reads r s t → (w : List ℕ) × (s ≡ w ++ t) × Language r w
  reads_language (lit w) s t e = (w, e, refl)
  reads_language (char p) s t (c, i, h, e) = (utf8 c, e, (c, i, h, refl))
  reads_language (a ⨾ b) s t (m, x, y) =
      let (u, p, k) = reads_language a s m x in
      let (v, q, l) = reads_language b m t y in
      (u ++ v, join u v t p q, (u, v, k, l, refl))
  reads_language (a ∖ b) s t (x, n) =
      let (w, e, l) = reads_language a s t x in
      (w, e, (l, λ k. n (rw e (language_reads b w t k))))
  reads_language (a ∣ b) s t (inl x) = let (w, e, l) = reads_language a s t x in (w, e, inl l)
  reads_language (a ∣ b) s t (inr x) = let (w, e, l) = reads_language b s t x in (w, e, inr l)
  reads_language (a ∗) s t x = star_repeats (reads_language a) x
  reads_language (such a p) s t (v, e, h, x) =
      let (w, f, l) = reads_language a s t x in
      (w, f, (l, rw (append_cancel_right w v t (sym f ∙ e)) h))

  pub language_reads : (r : Rule) (w t : List ℕ) → Language r w → Reads r (w ++ t) t
  language_reads (lit v) w t e = rw e
  language_reads (char p) w t (c, i, h, e) = (c, i, h, rw e)
  language_reads (a ⨾ b) w t (u, v, k, l, e) =
      (v ++ t, rw (e, append_assoc) (language_reads a u (v ++ t) k), language_reads b v t l)
  language_reads (a ∖ b) w t (k, n) =
      (language_reads a w t k, λ y. let (v, e, l) = reads_language b (w ++ t) t y in n (rw (append_cancel_right w v t e) l))
  language_reads (a ∣ b) w t (inl l) = inl (language_reads a w t l)
  language_reads (a ∣ b) w t (inr l) = inr (language_reads b w t l)
  language_reads (a ∗) w t l = repeats_star (language_reads a) t l
  language_reads (such a p) w t (l, h) = (w, refl, h, language_reads a w t l)

pub reads_suffix : (r : Rule) (s t : List ℕ) → Reads r s t → (w : List ℕ) × (s ≡ w ++ t)
reads_suffix r s t x = let (w, e, l) = reads_language r s t x in (w, e)

pub reads_length : (r : Rule) (s t : List ℕ) → Reads r s t → length t ≤ length s
reads_length r s t x = let (w, e) = reads_suffix r s t x in rw (e, length-append) (omega arith)

-- the same text, with something else after it
pub reads_frame : (r : Rule) (w t t' : List ℕ) → Reads r (w ++ t) t → Reads r (w ++ t') t'
reads_frame r w t t' x =
    let (v, e, l) = reads_language r (w ++ t) t x in
    language_reads r w t' (rw (append_cancel_right w v t e) l)
