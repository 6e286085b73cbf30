-- What may follow. In order: rules whose texts are ASCII; rules that never begin with a character of a class (`Off`); white space is no
-- name character; a reader that takes A off where B follows (`Takes`), and how such are put together; runs; white space, names and Eq; then
-- S? B, S B, Eq B and A? B.
use mathlib.Core.Path.{◌≡◌, refl, ap, ◌∙◌}
use mathlib.Core.Bool.{Bool, true, false, cond, not, ◌&&◌, false≢true}
use mathlib.Core.List.{List, [], ◌∷◌, ◌++◌, map}
use mathlib.Core.Logic.{◌⊎◌, inl, inr}
use mathlib.Core.Option.{Option, none, some, none-ne-some, some-injective}
use Prim.Native.Nat.{ℕ, ◌<◌}
use lib.ListN.{drop}
use lib.Dec.{leb, lit<}
use borrow.Author.Tests.{eqb-true, leb-false, not-true}
use Rattle.xml.specs.Range.{only, inside, within}
use Rattle.xml.specs.Notation.{Rule, Reads, Star, done, more, lit, char, bytes, opt, plus, such, ◌⨾◌, ◌∖◌, ◌∣◌, ◌∗}
use Rattle.xml.specs.Productions.{is_space, is_name_start, is_name_more, is_name, S, Name, Eq}
use Rattle.xml.specs.Character.{character, holds, starts, wide, run}
use Rattle.xml.proofs.Bools.{and_left, and_right, or_either, true-false, only_equal}
use Rattle.xml.proofs.Character.{character_is, character_low}
use Rattle.xml.proofs.Run.{starts_reads, reads_starts, run_reads, run_only, run_step}
use Rattle.chars.specs.Name.{name_of}
use Rattle.chars.proofs.Meaning.{name_found, name_is}
use Rattle.readers.specs.Read.{and_then, or_stay, skip, space_of}
use Rattle.readers.specs.Named.{eq_of, some_run}
use Rattle.readers.specs.Meaning.{Rest, characters, Holds, DecidesOn}
use Rattle.readers.proofs.Combine.{then_some, lit_decides, all_low, Ascii, rest_left}

-- ---- that a rule's texts are ASCII, by computing

abbrev is_ascii : Rule → Bool
is_ascii (lit w) = all_low w
is_ascii (char p) = true
is_ascii (a ⨾ b) = is_ascii a && is_ascii b
is_ascii (a ∖ b) = is_ascii a
is_ascii (a ∣ b) = is_ascii a && is_ascii b
is_ascii (a ∗) = is_ascii a
is_ascii (such a p) = is_ascii a

pub ascii : (r : Rule) → is_ascii r ≡ true → Ascii r
ascii (lit w) h = h
ascii (char p) h = tt
ascii (a ⨾ b) h = (ascii a (and_left (is_ascii a) _ h), ascii b (and_right (is_ascii a) _ h))
ascii (a ∖ b) h = ascii a h
ascii (a ∣ b) h = (ascii a (and_left (is_ascii a) _ h), ascii b (and_right (is_ascii a) _ h))
ascii (a ∗) h = ascii a h
ascii (such a p) h = ascii a h

-- ---- what does not begin with a character of a class

-- nothing that r derives begins with a character of p
pub record Off (p : ℕ → Bool) (r : Rule) : Type 0 where
  pub off : (s t : List ℕ) → Reads r s t → starts p s ≡ false

starts_is : (p : ℕ → Bool) (s : List ℕ) (c : ℕ) → character s ≡ some c → p c ≡ false → starts p s ≡ false
unfolding starts
starts_is p s c e h = ap (holds p) e ∙ h

module _ {p : ℕ → Bool} where
  pub off_lit : (x : ℕ) (w : List ℕ) → x < 0x80 → p x ≡ false → Off p (lit (x ∷ w))
  off_lit x w l h = record { off = λ s t e. starts_is p s x (ap character e ∙ character_low x (w ++ t) l) h }

  pub off_char : {q : ℕ → Bool} → ((c : ℕ) → q c ≡ true → p c ≡ false) → Off p (char q)
  off_char n = record { off = λ s t (c, k, h, e). starts_is p s c (character_is s c t k e) (n c h) }

  pub off_then : {a b : Rule} → Off p a → Off p (a ⨾ b)
  off_then n = record { off = λ s t (m, x, y). n.off s m x }

  pub off_either : {a b : Rule} → Off p a → Off p b → Off p (a ∣ b)
  off_either n o = record { off = λ s t. elim [ inl x ↦ n.off s t x | inr y ↦ o.off s t y ] }

  pub off_opt : {a b : Rule} → Off p a → Off p b → Off p (opt a ⨾ b)
  off_opt {a} {b} n o = record { off = λ s t (m, x, y). go s t m x y }
    where
      go : (s t m : List ℕ) → Reads (opt a) s m → Reads b m t → starts p s ≡ false
      go s t m (inl e) y = ap (starts p) e ∙ o.off m t y
      go s t m (inr x) y = n.off s m x

  pub off_star : {a b : Rule} → Off p a → Off p b → Off p (a ∗ ⨾ b)
  off_star {a} {b} n o = record { off = λ s t (m, x, y). go x (o.off m t y) }
    where
      go : {s m : List ℕ} → Star (Reads a) s m → starts p m ≡ false → starts p s ≡ false
      go done h = h
      go (more {s = s} {m = m} x y) h = n.off s m x

-- ---- white space is no name character

abbrev none_in : (ℕ → Bool) → List ℕ → Bool
none_in p [] = true
none_in p (x ∷ xs) = not (p x) && none_in p xs

within_none : (p : ℕ → Bool) (xs : List ℕ) → none_in p xs ≡ true → (c : ℕ) → within (map only xs) c ≡ true → p c ≡ false
within_none p [] h c k = absurd (false≢true k)
within_none p (x ∷ xs) h c k = go (within_none p xs (and_right (not (p x)) _ h) c) (or_either (inside (only x) c) _ k)
  where
    go : (within (map only xs) c ≡ true → p c ≡ false) → (inside (only x) c ≡ true) ⊎ (within (map only xs) c ≡ true) → p c ≡ false
    go f (inl e) = rw (eqb-true c x (only_equal c x ∙ e)) (not-true (p x) (and_left (not (p x)) _ h))
    go f (inr e) = f e

-- what holds of none of the four holds of no white space
pub space_none : (p : ℕ → Bool) → none_in p (0x20 ∷ 0x9 ∷ 0xD ∷ 0xA ∷ []) ≡ true → (c : ℕ) → is_space c ≡ true → p c ≡ false
unfolding is_space
space_none p h = within_none p (0x20 ∷ 0x9 ∷ 0xD ∷ 0xA ∷ []) h

pub space_low : (c : ℕ) → is_space c ≡ true → c < 0x80
space_low c h = leb-false 0x80 c (space_none (leb 0x80) refl c h)

pub space_name : (c : ℕ) → is_space c ≡ true → is_name c ≡ false
unfolding is_name is_name_start is_name_more
space_name = space_none is_name refl

space_start : (c : ℕ) → is_space c ≡ true → is_name_start c ≡ false
unfolding is_name_start
space_start = space_none is_name_start refl

start_space : (c : ℕ) → is_name_start c ≡ true → is_space c ≡ false
start_space c h = go (is_space c) refl
  where
    go : (b : Bool) → is_space c ≡ b → b ≡ false
    go true e = absurd (true-false h (space_start c e))
    go false e = refl

pub off_space : {p : ℕ → Bool} → ((c : ℕ) → is_space c ≡ true → p c ≡ false) → Off p S
off_space n = off_then (off_char n)

pub name_off_space : Off is_space Name
name_off_space = off_then (off_char start_space)

-- ---- a reader that takes A off where B follows

pub record TakesOn (o : Rest) (a : Rule) (f : List ℕ → Option (List ℕ)) (b : Rule) : Type 0 where
  pub sound : {s m : List ℕ} → Holds o s → f s ≡ some m → Reads a s m
  pub complete : {s m : List ℕ} (t : List ℕ) → Holds o s → Reads a s m → Reads b m t → f s ≡ some m

abbrev pub Takes : Rule → (List ℕ → Option (List ℕ)) → Rule → Type 0
Takes = TakesOn characters

pub decides_takes : {o : Rest} {a b : Rule} {f : List ℕ → Option (List ℕ)} → DecidesOn o a f → TakesOn o a f b
decides_takes k = record { sound = λ {s} {m} d e. k.sound d e; complete = λ {s} {m} t d x y. k.complete d x }

-- A B
pub takes_then : {o : Rest} {a b : Rule} {f g : List ℕ → Option (List ℕ)} → Ascii a → TakesOn o a f b → DecidesOn o b g
    → DecidesOn o (a ⨾ b) (λ s. and_then (f s) g)
takes_then {o} {a} {b} {f} {g} l k n =
    record {
      sound = λ {s} {t} d e.
          let (m, p, q) = then_some (f s) g t e in
          let x = k.sound d p in
          (m, x, n.sound (rest_left o a l s m d x) q);
      complete = λ {s} {t} d (m, x, y). rw (k.complete t d x y) (n.complete (rest_left o a l s m d x) y);
    }

-- A B, where C follows
pub takes_both : {o : Rest} {a b c : Rule} {f g : List ℕ → Option (List ℕ)} → Ascii a → TakesOn o a f (b ⨾ c) → TakesOn o b g c
    → TakesOn o (a ⨾ b) (λ s. and_then (f s) g) c
takes_both {o} {a} {b} {c} {f} {g} l k n =
    record {
      sound = λ {s} {m} d e.
          let (i, p, q) = then_some (f s) g m e in
          let x = k.sound d p in
          (i, x, n.sound (rest_left o a l s i d x) q);
      complete = λ {s} {m} t d (i, x, y) z. rw (k.complete t d x (m, y, z)) (n.complete t (rest_left o a l s i d x) y z);
    }

-- A? where B follows, and A's reader gives nothing where B stands
pub takes_opt : {o : Rest} {a b : Rule} {f : List ℕ → Option (List ℕ)} → TakesOn o a f b → ((s t : List ℕ) → Reads b s t → f s ≡ none)
    → TakesOn o (opt a) (λ s. some (or_stay (f s) s)) b
takes_opt {o} {a} {b} {f} k n =
    record {
      sound = λ {s} {m} d e. from (f s) refl d (some-injective _ _ e);
      complete = λ {s} {m} t d. elim [ inl e ↦ (λ y. to (n s t (rw e y)) e) | inr x ↦ (λ y. rw (k.complete t d x y)) ];
    }
  where
    from : {s m : List ℕ} (p : Option (List ℕ)) → f s ≡ p → Holds o s → or_stay p s ≡ m → Reads (opt a) s m
    from none q d e = inl e
    from (some t) q d e = inr (k.sound d (q ∙ ap some e))

    to : {s m : List ℕ} → f s ≡ none → s ≡ m → some (or_stay (f s) s) ≡ some m
    to h e = rw (h, e)

-- ---- runs of characters

-- a character of p, and then any number of q, where p is a part of q
module _ (p q : ℕ → Bool) (part : (c : ℕ) → p c ≡ true → q c ≡ true) where
  abbrev led_by : List ℕ → Option (List ℕ)
  led_by s = cond (starts p s) (some (run q 0 s)) none

  widen : (s t : List ℕ) → Reads (char p) s t → Reads (char q) s t
  widen s t (c, k, h, e) = (c, k, part c h, e)

  led_reads : {s t : List ℕ} → led_by s ≡ some t → Reads (char p ⨾ char q ∗) s t
  led_reads {s} {t} = go (starts p s) refl
    where
      go : (b : Bool) → starts p s ≡ b → cond b (some (run q 0 s)) none ≡ some t → Reads (char p ⨾ char q ∗) s t
      go false h e = absurd (none-ne-some t e)
      go true h e =
          let m = drop (wide (character s)) s in
          let x = starts_reads p s h in
          rw (← some-injective _ _ e) (m, x, rw (run_step q s (reads_starts q s m (widen s m x))) (run_reads q m))

  led_is : {s t : List ℕ} → Reads (char p ⨾ char q ∗) s t → starts q t ≡ false → led_by s ≡ some t
  led_is {s} {t} (m, x, y) n = rw (reads_starts p s m x) (ap some (run_only q (more (widen s m x) y) n))

  pub led_takes : {o : Rest} {b : Rule} → Off q b → TakesOn o (char p ⨾ char q ∗) (λ s. cond (starts p s) (some (run q 0 s)) none) b
  led_takes n =
      record { sound = λ {s} {m} d e. led_reads e; complete = λ {s} {m} t d x y. led_is x (n.off m t y) }

pub some_takes : {o : Rest} {p : ℕ → Bool} {b : Rule} → Off p b → TakesOn o (plus (char p)) (some_run p) b
some_takes {o} {p} n = led_takes p p (λ c h. h) n

-- ---- white space, names, Eq

-- A+ or nothing is A*
star_opt : {p : ℕ → Bool} {s t : List ℕ} → Star (Reads (char p)) s t → Reads (opt (plus (char p))) s t
star_opt done = inl refl
star_opt (more {m = m} x y) = inr (m, x, y)

opt_star : {p : ℕ → Bool} {s t : List ℕ} → Reads (opt (plus (char p))) s t → Star (Reads (char p)) s t
opt_star (inl e) = rw e done
opt_star (inr (m, x, y)) = more x y

pub skip_reads : (s : List ℕ) → Reads (opt S) s (skip s)
unfolding skip
skip_reads s = star_opt (run_reads is_space s)

pub skip_is : {s t : List ℕ} → Reads (opt S) s t → starts is_space t ≡ false → skip s ≡ t
unfolding skip
skip_is x n = run_only is_space (opt_star x) n

pub space_reads : {s t : List ℕ} → space_of s ≡ some t → Reads S s t
unfolding space_of skip
space_reads e = led_reads is_space is_space (λ c h. h) e

pub space_is : {s t : List ℕ} → Reads S s t → starts is_space t ≡ false → space_of s ≡ some t
unfolding space_of skip
space_is x n = led_is is_space is_space (λ c h. h) x n

module _ {o : Rest} {b : Rule} where
  pub skip_takes : Off is_space b → TakesOn o (opt S) (λ s. some (skip s)) b
  skip_takes n =
      record {
        sound = λ {s} {m} d e. rw (← some-injective _ _ e) (skip_reads s);
        complete = λ {s} {m} t d x y. ap some (skip_is x (n.off m t y));
      }

  pub space_takes : Off is_space b → TakesOn o S space_of b
  space_takes n =
      record { sound = λ {s} {m} d e. space_reads e; complete = λ {s} {m} t d x y. space_is x (n.off m t y) }

  pub name_takes : Off is_name b → TakesOn o Name name_of b
  name_takes n =
      record { sound = λ {s} {m} d e. (name_found s m e).0; complete = λ {s} {m} t d x y. name_is s m x (n.off m t y) }

pub eq_takes : {o : Rest} {b : Rule} → Off is_space b → TakesOn o Eq eq_of b
unfolding eq_of is_space
eq_takes n =
    takes_both (ascii (opt S) refl)
    (skip_takes (off_then (off_then (off_lit _ _ (lit< tt) refl))))
    (takes_both refl (decides_takes (lit_decides (bytes "="))) (skip_takes n))

-- ---- S? B, S B, Eq B and A? B

module _ {o : Rest} {b : Rule} {g : List ℕ → Option (List ℕ)} (k : DecidesOn o b g) where
  pub skip_then : Off is_space b → DecidesOn o (opt S ⨾ b) (λ s. g (skip s))
  skip_then n = takes_then (ascii (opt S) refl) (skip_takes n) k

  pub space_then : Off is_space b → DecidesOn o (S ⨾ b) (λ s. and_then (space_of s) g)
  space_then n = takes_then (ascii S refl) (space_takes n) k

  pub eq_then : Off is_space b → DecidesOn o (Eq ⨾ b) (λ s. and_then (eq_of s) g)
  eq_then n = takes_then (ascii Eq refl) (eq_takes n) k

  pub opt_then : {a : Rule} {f : List ℕ → Option (List ℕ)} → Ascii a → DecidesOn o a f → ((s t : List ℕ) → Reads b s t → f s ≡ none)
      → DecidesOn o (opt a ⨾ b) (λ s. g (or_stay (f s) s))
  opt_then l i n = takes_then (refl, l) (takes_opt (decides_takes i) n) k
