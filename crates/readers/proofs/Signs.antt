-- Characters with their origin, on every byte string. In order: the next one, computed and meant (`comes_next`, `next_comes`), is one;
-- all that come one after the other; and then, both ways, values of [10], sections of [18] and text have characters, and one list of them:
-- so the ends are those of the readers of values, of sections and of text.
use mathlib.Core.Path.{◌≡◌, refl, sym, ap, ◌∙◌}
use mathlib.Core.Bool.{Bool, true, false, cond, not, ◌&&◌, false≢true}
use mathlib.Core.List.{List, [], ◌∷◌, ◌++◌, map, append_cancel_left}
use mathlib.Core.Logic.{inl, inr}
use mathlib.Core.Option.{Option, none, some, none-ne-some, some-injective}
use Prim.Native.Nat.{ℕ, zero, suc, ◌-◌, ◌<◌}
use Prim.Native.String.{String}
use native.Mathlib.Omega.{arith}
use lib.ListN.{length, get_or, drop, length-append}
use lib.Seq.{drop_at, drop-append_seam}
use lib.Dec.{lit<}
use borrow.Author.Tests.{not-true}
use Rattle.xml.specs.Notation.{Reads, Star, done, more, char, bytes, text, ◌∣◌, ◌⨾◌, ◌∗}
use Rattle.xml.specs.Utf8.{utf8, is_scalar}
use Rattle.xml.specs.Character.{begins, character}
use Rattle.xml.specs.Productions.{is_char, except, Char, Reference, AttValue, CDSect}
use Rattle.xml.specs.Sign.{Sign, literal, referred, Where, in_text, in_section, in_double, in_single, plain_in, refers_in, Free}
use Rattle.xml.specs.Sign.{Comes, itself, said, Signs, over, next, Valued, double, single, Sectioned, section}
use Rattle.xml.proofs.Bools.{and_left, and_right, true-false}
use Rattle.xml.proofs.Utf8.{utf8_long}
use Rattle.xml.proofs.Character.{begins_append, begins_split, character_utf8, character_some, low_first}
use Rattle.readers.specs.Read.{seek, many}
use Rattle.readers.specs.Value.{Said, reference_of, value_of}
use Rattle.readers.specs.Plain.{text_of, section_of}
use Rattle.readers.specs.Meaning.{Chars, TextIs}
use Rattle.readers.specs.Sign.{Next, by_reference, closed, by_itself, next_of, next_rest, next_end, signs_in, Texted}
use Rattle.readers.proofs.Left.{Shorter, shorter_length}
use Rattle.readers.proofs.Many.{Shrinks, many_stop, many_step}
use Rattle.readers.proofs.Plain.{begins_other, seek_found, seek_char, past, upto_first, section_decides}
use Rattle.readers.proofs.Plain.{Plain, Stops, text_pass, text_never, past_end, text_sound, text_complete}
use Rattle.readers.proofs.Reference.{refers_said, said_refers, reads_refers, refers_reads, refers_scalar}
use Rattle.readers.proofs.Reference.{refers_first, refers_shorter}
use Rattle.readers.proofs.Value.{value_decides}

-- ---- the next character

-- what is left after the first byte and the rest of what is read
pub shorter_rest : (b : ℕ) (s t : List ℕ) → Shorter (b ∷ s) t → drop (length s - length t) s ≡ t
shorter_rest b s t ([], q, h) = absurd (let z : 0 < 0 = h in omega arith)
shorter_rest b s t (y ∷ w, q, h) =
    let r : s ≡ w ++ t = ap (λ (l : List ℕ). drop 1 l) q in
    let n : length w ≡ length s - length t = let z = ap length r ∙ length-append w t in omega arith in
    ap (drop (length s - length t)) r ∙ drop_at w t _ n

open_free : (s : List ℕ) → begins (bytes "]]>") s ≡ false → (u : List ℕ) → Reads (text "]]>") s u → ⊥
open_free s h u e = true-false (ap (begins (bytes "]]>")) e ∙ begins_append (bytes "]]>") u) h

free_open : (s : List ℕ) → ((u : List ℕ) → Reads (text "]]>") s u → ⊥) → begins (bytes "]]>") s ≡ false
free_open s f = go (begins (bytes "]]>") s) refl
  where
    go : (b : Bool) → begins (bytes "]]>") s ≡ b → b ≡ false
    go true h = absurd (f _ (begins_split (bytes "]]>") s h))
    go false h = refl

closed_free : (w : Where) (s : List ℕ) → closed w s ≡ false → Free w s
closed_free in_text s h = open_free s h
closed_free in_section s h = open_free s h
closed_free in_double s h = tt
closed_free in_single s h = tt

free_closed : (w : Where) (s : List ℕ) → Free w s → closed w s ≡ false
free_closed in_text s f = free_open s f
free_closed in_section s f = free_open s f
free_closed in_double s f = refl
free_closed in_single s f = refl

-- where references are read, & does not stand for itself
amp_refers : (w : Where) → refers_in w ≡ true → plain_in w 0x26 ≡ false
unfolding except is_char
amp_refers in_text h = refl
amp_refers in_section h = absurd (false≢true h)
amp_refers in_double h = refl
amp_refers in_single h = refl

next_amp : (w : Where) (m : List ℕ) (r : Said) → refers_in w ≡ true → reference_of (0x26 ∷ m) ≡ some r
    → next_of w (0x26 ∷ m) ≡ by_reference (some r)
unfolding next_of
next_amp w m r h e = rw (h, e)

no_amp : (w : Where) (c : ℕ) (t : List ℕ) → is_scalar c ≡ true → plain_in w c ≡ true
    → refers_in w && begins (bytes "&") (utf8 c ++ t) ≡ false
no_amp w c t k p = go (refers_in w) refl
  where
    go : (b : Bool) → refers_in w ≡ b → b && begins (bytes "&") (utf8 c ++ t) ≡ false
    go true h = begins_other 0x26 c [] t (lit< tt) k (λ z. true-false (ap (plain_in w) (sym z) ∙ p) (amp_refers w h))
    go false h = refl

next_itself : (w : Where) (c : ℕ) (t : List ℕ) → is_scalar c ≡ true → plain_in w c ≡ true → closed w (utf8 c ++ t) ≡ false
    → next_of w (utf8 c ++ t) ≡ some (record { sign = literal c; rest = t })
unfolding next_of
next_itself w c t k p o = rw (no_amp w c t k p, character_utf8 c t k, p, o, drop-append_seam (utf8 c) t)

-- the code point, without its origin
abbrev pub code_of : Sign → ℕ
code_of (literal c) = c
code_of (referred c) = c

module _ (w : Where) where
  pub comes_next : {x : Sign} {s t : List ℕ} → Comes w x s t → next_of w s ≡ some (record { sign = x; rest = t })
  comes_next {t = t} (itself {c = c} {s = s} k p f e) =
      ap (next_of w) e ∙ next_itself w c t k p (ap (closed w) (sym e) ∙ free_closed w s f)
  comes_next {t = t} (said {c = c} h r) =
      let (m, e) = refers_first r in
      ap (next_of w) e ∙ next_amp w m (record { code = c; rest = t }) h (ap reference_of (sym e) ∙ refers_said r)

  pub next_comes : {s : List ℕ} {x : Next} → next_of w s ≡ some x → Comes w x.sign s x.rest
  unfolding next_of
  next_comes {s} {x} = go (refers_in w && begins (bytes "&") s) refl
    where
      by_reference_lem : refers_in w ≡ true → (o : Option Said) → reference_of s ≡ o → by_reference o ≡ some x → Comes w x.sign s x.rest
      by_reference_lem h none e q = absurd (none-ne-some x q)
      by_reference_lem h (some r) e q = rw (← some-injective _ _ q) (said h (said_refers e))

      plainly : (c : ℕ) → character s ≡ some c → (b : Bool) → plain_in w c && not (closed w s) ≡ b
          → cond b (some (record { sign = literal c; rest = drop (length (utf8 c)) s })) none ≡ some x → Comes w x.sign s x.rest
      plainly c e false h q = absurd (none-ne-some x q)
      plainly c e true h q =
          let (k, z) = character_some s c e in
          let f = closed_free w s (not-true (closed w s) (and_right (plain_in w c) _ h)) in
          rw (← some-injective _ _ q) (itself k (and_left (plain_in w c) _ h) f z)

      by_itself_lem : (o : Option ℕ) → character s ≡ o → by_itself w s o ≡ some x → Comes w x.sign s x.rest
      by_itself_lem none e q = absurd (none-ne-some x q)
      by_itself_lem (some c) e q = plainly c e (plain_in w c && not (closed w s)) refl q

      go : (b : Bool) → refers_in w && begins (bytes "&") s ≡ b
          → cond b (by_reference (reference_of s)) (by_itself w s (character s)) ≡ some x → Comes w x.sign s x.rest
      go true h q = by_reference_lem (and_left (refers_in w) _ h) (reference_of s) refl q
      go false h q = by_itself_lem (character s) refl q

  pub comes_once : {x y : Sign} {s t u : List ℕ} → Comes w x s t → Comes w y s u → (x ≡ y) × (t ≡ u)
  comes_once a b =
      let z = some-injective _ _ (sym (comes_next a) ∙ comes_next b) in
      (ap (λ (n : Next). n.sign) z, ap (λ (n : Next). n.rest) z)

  pub comes_shorter : {x : Sign} {s t : List ℕ} → Comes w x s t → Shorter s t
  comes_shorter (itself {c = c} k p f e) = (utf8 c, e, utf8_long c)
  comes_shorter (said h r) = refers_shorter r

  pub comes_scalar : {x : Sign} {s t : List ℕ} → Comes w x s t → is_scalar (code_of x) ≡ true
  comes_scalar (itself k p f e) = k
  comes_scalar (said h r) = refers_scalar r

  -- all that come one after the other

  next_end_lem : {s t : List ℕ} → next_end w s ≡ some t → (x : Sign) × Comes w x s t
  next_end_lem {s} {t} = go (next_of w s) refl
    where
      go : (o : Option Next) → next_of w s ≡ o → next_rest o ≡ some t → (x : Sign) × Comes w x s t
      go none e q = absurd (none-ne-some t q)
      go (some n) e q = (n.sign, rw (← some-injective n.rest t q) (next_comes e))

  next_shrinks : Shrinks (next_end w)
  next_shrinks = record { front = λ s t e. let (x, c) = next_end_lem e in comes_shorter c }

  signs_skip : (k : ℕ) (s : List ℕ) → signs_in w k s ≡ signs_in w 0 (drop k s)
  unfolding signs_in
  signs_skip zero [] = refl
  signs_skip (suc k) [] = refl
  signs_skip zero (b ∷ s) = refl
  signs_skip (suc k) (b ∷ s) = signs_skip k s

  pub signs_step : (s : List ℕ) {x : Sign} {m : List ℕ} → Comes w x s m → signs_in w 0 s ≡ x ∷ signs_in w 0 m
  unfolding signs_in
  signs_step [] {x} {m} c = absurd (let h : length m < 0 = shorter_length (comes_shorter c) in omega arith)
  signs_step (b ∷ s) {x} {m} c =
      rw (comes_next c)
      (ap (λ (l : List Sign). x ∷ l)
      (signs_skip (length s - length m) s ∙ ap (signs_in w 0) (shorter_rest b s m (comes_shorter c))))

  pub signs_stop : (s : List ℕ) → next_of w s ≡ none → signs_in w 0 s ≡ []
  unfolding signs_in
  signs_stop [] e = refl
  signs_stop (b ∷ s) e = rw e

  -- what comes up to where nothing comes is what is computed, and so is its end
  pub signs_found : {xs : List Sign} {s t : List ℕ} → Signs w xs s t → next_of w t ≡ none
      → (signs_in w 0 s ≡ xs) × (many (next_end w) 0 s ≡ t)
  signs_found {s = s} over e = (signs_stop s e, many_stop (next_end w) s (ap next_rest e))
  signs_found (next {x = x} {s = s} {m = m} c r) e =
      let (a, b) = signs_found r e in
      (signs_step s c ∙ ap (λ (l : List Sign). x ∷ l) a, many_step next_shrinks s m (ap next_rest (comes_next c)) ∙ b)

  pub signs_once : {xs ys : List Sign} {s t u : List ℕ} → Signs w xs s t → Signs w ys s u → next_of w t ≡ none → next_of w u ≡ none
      → (xs ≡ ys) × (t ≡ u)
  signs_once p q e f =
      let (a, b) = signs_found p e in
      let (c, d) = signs_found q f in
      (sym a ∙ c, sym b ∙ d)

  -- where nothing comes
  pub nothing_comes : {s : List ℕ} → ((x : Sign) (t : List ℕ) → Comes w x s t → ⊥) → next_of w s ≡ none
  nothing_comes {s} f = go (next_of w s) refl
    where
      go : (o : Option Next) → next_of w s ≡ o → o ≡ none
      go none e = refl
      go (some n) e = absurd (f n.sign n.rest (next_comes e))

-- ---- values, [10]

-- an ASCII character that does not stand for itself, and is not &, ends them
low_ends : (w : Where) (b : ℕ) (t : List ℕ) → b < 0x80 → plain_in w b ≡ false → (b ≡ 0x26 → ⊥) → next_of w (b ∷ t) ≡ none
low_ends w b t l p n = nothing_comes w no
  where
    no : (x : Sign) (u : List ℕ) → Comes w x (b ∷ t) u → ⊥
    no x u (itself k q f e) = true-false q (ap (plain_in w) (sym (low_first l k e).0) ∙ p)
    no x u (said h r) = let (m, e) = refers_first r in n cc

module _ (w : Where) (xs : String) (p : plain_in w ≡ except xs) (r : refers_in w ≡ true) (f : (s : List ℕ) → Free w s) where
  star_signs : {s t : List ℕ} → Star (Reads (char (except xs) ∣ Reference)) s t → (l : List Sign) × Signs w l s t
  star_signs done = ([], over)
  star_signs (more {s = s} (inl (c, k, q, e)) d) =
      let (l, x) = star_signs d in
      (literal c ∷ l, next (itself k (rw p q) (f s) e) x)
  star_signs (more (inr x) d) =
      let (c, y) = reads_refers x in
      let (l, z) = star_signs d in
      (referred c ∷ l, next (said r y) z)

  signs_star : {l : List Sign} {s t : List ℕ} → Signs w l s t → Star (Reads (char (except xs) ∣ Reference)) s t
  signs_star over = done
  signs_star (next (itself {c = c} k q g e) d) = more (inl (c, k, rw p at q, e)) (signs_star d)
  signs_star (next (said h x) d) = more (inr (refers_reads x)) (signs_star d)

pub reads_valued : {s t : List ℕ} → Reads AttValue s t → (xs : List Sign) × Valued xs s t
reads_valued (inl (a, e, (b, r, z))) = let (l, x) = star_signs in_double "<&\"" refl refl (λ s. tt) r in (l, double e x z)
reads_valued (inr (a, e, (b, r, z))) = let (l, x) = star_signs in_single "<&'" refl refl (λ s. tt) r in (l, single e x z)

pub valued_reads : {xs : List Sign} {s t : List ℕ} → Valued xs s t → Reads AttValue s t
valued_reads (double {a = a} {b = b} e x z) = inl (a, e, (b, signs_star in_double "<&\"" refl refl (λ s. tt) x, z))
valued_reads (single {a = a} {b = b} e x z) = inr (a, e, (b, signs_star in_single "<&'" refl refl (λ s. tt) x, z))

pub double_ends : (t : List ℕ) → next_of in_double (0x22 ∷ t) ≡ none
unfolding except is_char
double_ends t = low_ends in_double 0x22 t (lit< tt) refl (omega arith)

pub single_ends : (t : List ℕ) → next_of in_single (0x27 ∷ t) ≡ none
unfolding except is_char
single_ends t = low_ends in_single 0x27 t (lit< tt) refl (omega arith)

-- between the same two texts
between_once : (w : Where) (u v : List ℕ) {xs ys : List Sign} {s a b t a' b' t' : List ℕ} → ((t : List ℕ) → next_of w (v ++ t) ≡ none)
    → s ≡ u ++ a → Signs w xs a b → b ≡ v ++ t → s ≡ u ++ a' → Signs w ys a' b' → b' ≡ v ++ t' → (xs ≡ ys) × (t ≡ t')
between_once w u v {t = t} {t' = t'} stop e x z e' x' z' =
    let i = append_cancel_left u _ _ (sym e ∙ e') in
    let (j, k) = signs_once w (rw i at x) x' (ap (next_of w) z ∙ stop t) (ap (next_of w) z' ∙ stop t') in
    (j, append_cancel_left v _ _ (sym z ∙ k ∙ z'))

first_same : {x y : ℕ} {s a b : List ℕ} → s ≡ x ∷ a → s ≡ y ∷ b → x ≡ y
first_same {x} e e' = ap (λ (l : List ℕ). get_or l 0 x) (sym e ∙ e')

-- a value has one list of characters, and one end
pub valued_once : {xs ys : List Sign} {s t u : List ℕ} → Valued xs s t → Valued ys s u → (xs ≡ ys) × (t ≡ u)
valued_once (double e x z) (double e' x' z') = between_once in_double (bytes "\"") (bytes "\"") double_ends e x z e' x' z'
valued_once (single e x z) (single e' x' z') = between_once in_single (bytes "'") (bytes "'") single_ends e x z e' x' z'
valued_once (double e x z) (single e' x' z') = absurd (let h = first_same e e' in omega arith)
valued_once (single e x z) (double e' x' z') = absurd (let h = first_same e e' in omega arith)

-- ---- sections, [18]

-- characters among which `]]>` does not stand, up to where it does
star_section : {s m : List ℕ} → Star (Reads Char) s m → (Reads (Char ∗ ⨾ text "]]>" ⨾ Char ∗) s m → ⊥) → begins (bytes "]]>") m ≡ true
    → (xs : List Sign) × Signs in_section xs s m
star_section done never h = ([], over)
star_section (more {s = s} {m = k} {t = m} (c, i, p, e) d) never h =
    let (xs, x) = star_section d (λ (k', a, b). never (k', more (c, i, p, e) a, b)) h in
    (literal c ∷ xs, next (itself i p free e) x)
  where
    free : (u : List ℕ) → Reads (text "]]>") s u → ⊥
    free u q =
        let g : bytes "]>" ++ u ≡ k = (low_first (lit< tt) i (sym q ∙ e)).1 in
        never (s, done, (u, q, past (bytes "]]>") (bytes "]>") u refl refl h (rw g d)))

signs_seek : {xs : List Sign} {s m : List ℕ} → Signs in_section xs s m → begins (bytes "]]>") m ≡ true
    → Star (Reads Char) s m × (seek (bytes "]]>") s ≡ m)
signs_seek {m = m} over h = (done, seek_found (bytes "]]>") m h)
signs_seek (next {s = s} (itself {c = c} {t = k} i p f e) x) h =
    let (d, q) = signs_seek x h in
    (more (c, i, p, e) d, ap (seek (bytes "]]>")) e ∙ seek_char 0x5D (bytes "]>") (lit< tt) c k (rw e at (free_open s f)) ∙ q)
signs_seek (next (said r y) x) h = absurd (false≢true r)

pub reads_sectioned : {s t : List ℕ} → Reads CDSect s t → (xs : List Sign) × Sectioned xs s t
reads_sectioned {t = t} (a, e, (b, (d, never), z)) =
    let (xs, x) = star_section d never (ap (begins (bytes "]]>")) z ∙ begins_append (bytes "]]>") t) in
    (xs, section e x z)

pub sectioned_reads : {xs : List Sign} {s t : List ℕ} → Sectioned xs s t → Reads CDSect s t
sectioned_reads {t = t} (section {a = a} {b = b} e x z) =
    let (d, q) = signs_seek x (ap (begins (bytes "]]>")) z ∙ begins_append (bytes "]]>") t) in
    (a, e, (b, (d, λ r. upto_first 0x5D (bytes "]>") refl refl a t (q ∙ z) (rw z at r)), z))

section_ends : (t : List ℕ) → next_of in_section (bytes "]]>" ++ t) ≡ none
section_ends t = nothing_comes in_section no
  where
    no : (x : Sign) (u : List ℕ) → Comes in_section x (bytes "]]>" ++ t) u → ⊥
    no x u (itself k q f e) = f t refl
    no x u (said h r) = false≢true h

-- a section has one list of characters, and one end
pub sectioned_once : {xs ys : List Sign} {s t u : List ℕ} → Sectioned xs s t → Sectioned ys s u → (xs ≡ ys) × (t ≡ u)
sectioned_once (section e x z) (section e' x' z') =
    between_once in_section (bytes "<![CDATA[") (bytes "]]>") section_ends e x z e' x' z'

-- ---- text, [14] up to where it stops

star_text : {s t : List ℕ} → Star (Reads Plain) s t → (Reads (Plain ∗ ⨾ text "]]>" ⨾ Plain ∗) s t → ⊥) → Stops t
    → (cs : List ℕ) × Signs in_text (map literal cs) s t
star_text done never h = ([], over)
star_text (more {s = s} (c, k, p, q) d) never h =
    let (cs, x) = star_text d (λ (k', a, b). never (k', more (c, k, p, q) a, b)) h in
    (c ∷ cs, next (itself k p (λ u e. never (s, done, (u, e, past_end u (more (c, k, p, q) d) h e))) q) x)

text_stops : (t : List ℕ) → Stops t → text_of t ≡ some t
unfolding text_of
text_stops t (inl e) = rw e
text_stops t (inr (u, inl e)) = rw e
text_stops t (inr (u, inr e)) = rw e

literals_text : (cs : List ℕ) {s t : List ℕ} → Signs in_text (map literal cs) s t → Stops t → Star (Reads Plain) s t × (text_of s ≡ some t)
literals_text [] {t = t} over h = (done, text_stops t h)
literals_text (c ∷ cs) {t = t} (next {s = s} {m = m} (itself k p f e) x) h =
    let (d, q) = literals_text cs x h in
    let o : begins (bytes "]]>") (utf8 c ++ m) ≡ false = ap (begins (bytes "]]>")) (sym e) ∙ free_open s f in
    (more (c, k, p, e) d, ap text_of e ∙ text_pass c m k p ∙ rw o q)

pub reads_texted : {s t : List ℕ} → TextIs s t → (cs : List ℕ) × Texted cs s t
reads_texted x =
    let (d, never) = x.reads in
    let (cs, y) = star_text d never x.stops in
    (cs, record { signs = y; stops = x.stops })

pub texted_reads : {cs s t : List ℕ} → Texted cs s t → TextIs s t
texted_reads {cs} x =
    let (d, q) = literals_text cs x.signs x.stops in
    record { reads = (d, text_never q); stops = x.stops }

-- ---- the ends are those of the readers, wherever only characters are left

pub value_signs : {s t : List ℕ} → Chars s → value_of s ≡ some t → (xs : List Sign) × Valued xs s t
value_signs d e = reads_valued (value_decides.sound d e)

pub signs_value : {xs : List Sign} {s t : List ℕ} → Chars s → Valued xs s t → value_of s ≡ some t
signs_value d x = value_decides.complete d (valued_reads x)

pub section_signs : {s t : List ℕ} → Chars s → section_of s ≡ some t → (xs : List Sign) × Sectioned xs s t
section_signs d e = reads_sectioned (section_decides.sound d e)

pub signs_section : {xs : List Sign} {s t : List ℕ} → Chars s → Sectioned xs s t → section_of s ≡ some t
signs_section d x = section_decides.complete d (sectioned_reads x)

pub text_signs : {s t : List ℕ} → Chars s → text_of s ≡ some t → (cs : List ℕ) × Texted cs s t
text_signs d e = reads_texted (text_sound d e)

pub signs_text : {cs s t : List ℕ} → Chars s → Texted cs s t → text_of s ≡ some t
signs_text d x = text_complete d (texted_reads x)
