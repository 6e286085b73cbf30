-- `rests` gives just what `Reads` says, so that what `derives` computes is what the grammar derives. In order: membership in a list, as a
-- test and as a place; where an element of what `each`, `keep`, `strip`, `after` and `repeat` give comes from, and that it is there; the
-- two directions, which need each other at `∖`; `derives` against the rule's language; what a judged table says of that language.
use mathlib.Core.Path.{◌≡◌, refl, sym, ap, ◌∙◌}
use mathlib.Core.Bool.{Bool, true, false, cond, not, ◌||◌, or-true, false≢true, true≢false}
use mathlib.Core.List.Memᴰ
use mathlib.Core.List.{List, [], ◌∷◌, ◌++◌, append-nil}
use mathlib.Core.List.Memᴰ.{append_cases}
use mathlib.Core.List.Memᴰ.{head as here}
use mathlib.Core.List.Memᴰ.{tail as there}
use mathlib.Core.List.{Memᴰ as In}
use mathlib.Core.List.Memᴰ.{cases_cons}
use mathlib.Core.List.Memᴰ.{eq_of_singleton as singleton}
use mathlib.Core.List.Memᴰ.{not-nil}
use mathlib.Core.Logic.{inl, inr}
use mathlib.Core.Option.{Option, none, some}
use Prim.Native.Nat.{ℕ, zero, suc, ◌-◌, ◌≤◌, ◌<◌}
use native.Mathlib.Omega.{arith}
use lib.ListN.{length, take, drop, length-append}
use lib.Seq.{take_at, drop-append_seam}
use lib.Dec.{eqb, ltb}
use borrow.Author.Tests.{eqb-true, eq-eqb, lt-ltb, not-true}
use Rattle.xml.specs.Utf8.{utf8, is_scalar}
use Rattle.xml.specs.Notation.{Rule, lit, char, ◌⨾◌, ◌∖◌, ◌∣◌, ◌∗, such, Reads, Star, done, more}
use Rattle.xml.specs.Productions.{same}
use Rattle.xml.specs.Language.{Language}
use Rattle.xml.specs.Character.{character}
use Rattle.xml.specs.Computes.{strip, after, each, keep, member, repeat, rests, derives}
use Rattle.xml.specs.Judged.{every, judged}
use Rattle.xml.proofs.Bools.{and_left, and_right}
use Rattle.xml.proofs.Same.{same_equal, same_refl}
use Rattle.xml.proofs.Character.{character_utf8, character_some}
use Rattle.xml.proofs.Language.{reads_language, language_reads, reads_suffix}

member_in : (t : List ℕ) (ts : List (List ℕ)) → member t ts ≡ true → In t ts
unfolding member
member_in t [] h = absurd (false≢true h)
member_in t (u ∷ us) h = go (same t u) refl (member_in t us) h
  where
    go : (b : Bool) → same t u ≡ b → (member t us ≡ true → In t us) → (b || member t us) ≡ true → In t (u ∷ us)
    go true e f h = here (same_equal t u e)
    go false e f h = there (f h)

in_member : {t : List ℕ} {ts : List (List ℕ)} → In t ts → member t ts ≡ true
unfolding member
in_member {t} (here {x = u} e) = rw (← e, same_refl)
in_member (there i) = rw (in_member i, or-true)

absent : (t : List ℕ) (ts : List (List ℕ)) → (In t ts → ⊥) → not (member t ts) ≡ true
absent t ts n = go (member t ts) refl
  where
    go : (b : Bool) → member t ts ≡ b → not b ≡ true
    go true e = absurd (n (member_in t ts e))
    go false e = refl

in_each : {t : List ℕ} (f : List ℕ → List (List ℕ)) (ts : List (List ℕ)) → In t (each f ts) → (m : List ℕ) × In m ts × In t (f m)
unfolding each
in_each f [] i = absurd (not-nil i)
in_each f (u ∷ us) i =
    elim (append_cases (f u) i) [ inl j ↦ (u, here refl, j) | inr j ↦ let (m, k, l) = in_each f us j in (m, there k, l) ]

each_in : {t m : List ℕ} {ts : List (List ℕ)} (f : List ℕ → List (List ℕ)) → In m ts → In t (f m) → In t (each f ts)
unfolding each
each_in f (here {x = u} {xs = us} e) i = Memᴰ.append_left (each f us) (rw e at i)
each_in f (there {x = u} j) i = Memᴰ.append_right (f u) (each_in f j i)

in_keep : {t : List ℕ} (p : List ℕ → Bool) (ts : List (List ℕ)) → In t (keep p ts) → In t ts × (p t ≡ true)
unfolding keep
in_keep p [] i = absurd (not-nil i)
in_keep {t} p (u ∷ us) i = go (p u) refl (in_keep p us) i
  where
    go : (b : Bool) → p u ≡ b → (In t (keep p us) → In t us × (p t ≡ true)) →
        In t (cond b (u ∷ keep p us) (keep p us)) → In t (u ∷ us) × (p t ≡ true)
    go true e f i = elim (cases_cons i) [ inl q ↦ (here q, ap p q ∙ e) | inr j ↦ let (k, l) = f j in (there k, l) ]
    go false e f i = let (k, l) = f i in (there k, l)

keep_in : {t : List ℕ} {ts : List (List ℕ)} (p : List ℕ → Bool) → In t ts → p t ≡ true → In t (keep p ts)
unfolding keep
keep_in p (here {x = u} e) h = rw (sym (ap p e) ∙ h) (here e)
keep_in {t} p (there {x = u} {xs = us} i) h = go (p u) (keep_in p i h)
  where
    go : (b : Bool) → In t (keep p us) → In t (cond b (u ∷ keep p us) (keep p us))
    go true j = there j
    go false j = j

in_strip : {t : List ℕ} (w s : List ℕ) → In t (strip w s) → s ≡ w ++ t
unfolding strip
in_strip [] s i = sym (singleton i)
in_strip (x ∷ w) [] i = absurd (not-nil i)
in_strip {t} (x ∷ w) (y ∷ s) i = go (eqb x y) refl (in_strip w s) i
  where
    go : (b : Bool) → eqb x y ≡ b → (In t (strip w s) → s ≡ w ++ t) → In t (cond b (strip w s) []) → y ∷ s ≡ x ∷ w ++ t
    go true e f i = rw (eqb-true x y e, f i)
    go false e f i = absurd (not-nil i)

strip_in : (w t : List ℕ) → In t (strip w (w ++ t))
unfolding strip
strip_in [] t = here refl
strip_in (x ∷ w) t = rw (eq-eqb x x refl) (strip_in w t)

shorter : {s : List ℕ} (c : ℕ) (w m : List ℕ) → s ≡ c ∷ w ++ m → length m < length s
shorter c w m e = rw (e, length-append) (omega arith)

-- repeating f, where what f gives is what R says
module _ (f : List ℕ → List (List ℕ)) (R : List ℕ → List ℕ → Type 0) where
  repeat_star : ((s t : List ℕ) → In t (f s) → R s t) → (k : ℕ) (s t : List ℕ) → In t (repeat f k s) → Star R s t
  unfolding repeat
  repeat_star g zero s t i = rw (singleton i) done
  repeat_star g (suc k) s t i = elim (cases_cons i) [
    | inl e ↦ rw e done
    | inr j ↦
        let (m, l, n) = in_each (repeat f k) (keep (λ u. ltb (length u) (length s)) (f s)) j in
        more (g s m (in_keep (λ u. ltb (length u) (length s)) (f s) l).0) (repeat_star g k m t n)
  ]

  repeat_none : (k : ℕ) (s : List ℕ) → In s (repeat f k s)
  unfolding repeat
  repeat_none zero s = here refl
  repeat_none (suc k) s = here refl

  -- a step that takes nothing is left out, so that as many steps as there are bytes are enough
  module _ (shown : (s t : List ℕ) → R s t → In t (f s)) (suffix : (s t : List ℕ) → R s t → (w : List ℕ) × (s ≡ w ++ t)) where
    star_repeat : {s t : List ℕ} → Star R s t → (k : ℕ) → length s ≤ k → In t (repeat f k s)
    unfolding repeat
    star_repeat (done {s = s}) k h = repeat_none k s
    star_repeat {s} {t} (more {m = m} x xs) k h = let (w, e) = suffix s m x in go w k e h (star_repeat xs)
      where
        go : (w : List ℕ) (k : ℕ) → s ≡ w ++ m → length s ≤ k → ((k : ℕ) → length m ≤ k → In t (repeat f k m)) → In t (repeat f k s)
        go [] k e h g = rw e (g k (rw e at h))
        go (c ∷ w) zero e h g = absurd (omega (arith, shorter c w m e))
        go (c ∷ w) (suc k) e h g =
            let l : length m < length s = shorter c w m e in
            let j = keep_in (λ u. ltb (length u) (length s)) (shown s m x) (lt-ltb (length m) (length s) l) in
            there (each_in (repeat f k) j (g k (omega arith)))

-- the text before t, by its length
text_taken : {s : List ℕ} (w t : List ℕ) → s ≡ w ++ t → take (length s - length t) s ≡ w
text_taken w t e = rw e (take_at w t (length (w ++ t) - length t) (rw length-append (omega arith)))

every_in : {w : List ℕ} {ws : List (List ℕ)} (p : List ℕ → Bool) → every p ws ≡ true → In w ws → p w ≡ true
unfolding every
every_in p h (here {x = u} {xs = us} e) = rw e (and_left (p u) _ h)
every_in p h (there {x = u} {xs = us} i) = every_in p (and_right (p u) _ h) i

in_after : (p : ℕ → Bool) (s t : List ℕ) (o : Option ℕ) → character s ≡ o → In t (after p o s) → Reads (char p) s t
unfolding after
in_after p s t none e i = absurd (not-nil i)
in_after p s t (some c) e i = go (p c) refl i
  where
    go : (b : Bool) → p c ≡ b → In t (cond b (drop (length (utf8 c)) s ∷ []) []) → Reads (char p) s t
    go true h i = let (k, q) = character_some s c e in (c, k, h, (rw (singleton i) q))
    go false h i = absurd (not-nil i)

after_in : (p : ℕ → Bool) (c : ℕ) (t : List ℕ) → is_scalar c ≡ true → p c ≡ true → In t (after p (character (utf8 c ++ t)) (utf8 c ++ t))
unfolding after
after_in p c t k h = rw (character_utf8 c t k, h) (here (sym (drop-append_seam (utf8 c) t)))

mutual
  unfolding rests

  in_reads : (r : Rule) (s t : List ℕ) → In t (rests r s) → Reads r s t
  in_reads (lit w) s t i = in_strip w s i
  in_reads (char p) s t i = in_after p s t (character s) refl i
  in_reads (a ⨾ b) s t i = let (m, j, k) = in_each (rests b) (rests a s) i in (m, in_reads a s m j, in_reads b m t k)
  in_reads (a ∖ b) s t i =
      let (j, h) = in_keep (λ u. not (member u (rests b s))) (rests a s) i in
      (in_reads a s t j, λ y. true≢false (sym (in_member (reads_in b s t y)) ∙ not-true (member t (rests b s)) h))
  in_reads (a ∣ b) s t i = elim (append_cases (rests a s) i) [ inl j ↦ inl (in_reads a s t j) | inr j ↦ inr (in_reads b s t j) ]
  in_reads (a ∗) s t i = repeat_star (rests a) (Reads a) (in_reads a) (length s) s t i
  in_reads (such a p) s t i =
      let (j, h) = in_keep (λ u. p (take (length s - length u) s)) (rests a s) i in
      let x = in_reads a s t j in
      let (w, e) = reads_suffix a s t x in
      (w, e, (rw (text_taken w t e) at h), x)

  reads_in : (r : Rule) (s t : List ℕ) → Reads r s t → In t (rests r s)
  reads_in (lit w) s t e = rw e (strip_in w t)
  reads_in (char p) s t (c, k, h, e) = rw e (after_in p c t k h)
  reads_in (a ⨾ b) s t (m, x, y) = each_in (rests b) (reads_in a s m x) (reads_in b m t y)
  reads_in (a ∖ b) s t (x, n) =
      let h = absent t (rests b s) (λ i. n (in_reads b s t i)) in
      keep_in (λ u. not (member u (rests b s))) (reads_in a s t x) h
  reads_in (a ∣ b) s t (inl x) = Memᴰ.append_left (rests b s) (reads_in a s t x)
  reads_in (a ∣ b) s t (inr x) = Memᴰ.append_right (rests a s) (reads_in b s t x)
  reads_in (a ∗) s t x = star_repeat (rests a) (Reads a) (reads_in a) (reads_suffix a) x (length s) (omega arith)
  reads_in (such a p) s t (w, e, h, x) = keep_in (λ u. p (take (length s - length u) s)) (reads_in a s t x) (rw (text_taken w t e) h)

pub rests_sound : (r : Rule) (s t : List ℕ) → member t (rests r s) ≡ true → Reads r s t
rests_sound r s t h = in_reads r s t (member_in t (rests r s) h)

pub rests_complete : (r : Rule) (s t : List ℕ) → Reads r s t → member t (rests r s) ≡ true
rests_complete r s t x = in_member (reads_in r s t x)

pub derives_language : (r : Rule) (w : List ℕ) → derives r w ≡ true → Language r w
unfolding derives
derives_language r w h = let (v, e, l) = reads_language r w [] (rests_sound r w [] h) in rw (e, append-nil) l

pub language_derives : (r : Rule) (w : List ℕ) → Language r w → derives r w ≡ true
unfolding derives
language_derives r w l = rests_complete r w [] (rw append-nil at (language_reads r w [] l))

-- a judged table's first texts are of the rule's language, and its second are not
module _ (r : Rule) (good bad : List (List ℕ)) (h : judged r good bad ≡ true) where
  judged_both : (every (derives r) good ≡ true) × (every (λ w. not (derives r w)) bad ≡ true)
  unfolding judged
  judged_both = (and_left (every (derives r) good) _ h, and_right (every (derives r) good) _ h)

  pub judged_good : {w : List ℕ} → In w good → Language r w
  judged_good {w} i = derives_language r w (every_in (derives r) judged_both.0 i)

  pub judged_bad : {w : List ℕ} → In w bad → Language r w → ⊥
  judged_bad {w} i l =
      let n = not-true (derives r w) (every_in (λ v. not (derives r v)) judged_both.1 i) in
      true≢false (sym (language_derives r w l) ∙ n)
