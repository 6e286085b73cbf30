-- Items that end at a text. In order: texts that differ; passing a character; `seek` finds the first place of a text; what ends at the
-- first w, `(Char* - (Char* w Char*)) w`; [18] CDSect; [15] Comment; [14] CharData up to where it stops.
use mathlib.Core.Path.{◌≡◌, refl, sym, ap, ◌∙◌}
use mathlib.Core.Bool.{Bool, true, false, cond, ◌&&◌, ◌||◌, or-false, false≢true}
use mathlib.Core.List.{List, [], ◌∷◌, ◌++◌, nil≢cons}
use mathlib.Core.Logic.{◌⊎◌, inl, inr}
use mathlib.Core.Option.{Option, none, some, none-ne-some, some-injective}
use Prim.Native.Nat.{ℕ, suc, ◌+◌, ◌≤◌, ◌<◌}
use Prim.Native.String.{String}
use native.Mathlib.Omega.{arith}
use lib.ListN.{length, drop, length-append}
use lib.Dec.{eqb, ltb, lit<}
use borrow.Author.Tests.{eqb-true, eqb-false, ne_eqb, ltb-true, ltb-false, not-true}
use Rattle.xml.specs.Notation.{Rule, Reads, Star, done, more, lit, char, text, bytes, among, ◌⨾◌, ◌∖◌, ◌∣◌, ◌∗}
use Rattle.xml.specs.Utf8.{utf8, is_scalar}
use Rattle.xml.specs.Character.{begins, starts, run}
use Rattle.xml.specs.Productions.{is_char, except, Char, CDSect, Comment}
use Rattle.xml.proofs.Bools.{and_left, and_right, or_either, true-false}
use Rattle.xml.proofs.Utf8.{utf8_low, pass_high}
use Rattle.xml.proofs.Character.{begins_append, begins_split, low_first}
use Rattle.xml.proofs.Run.{starts_nil, starts_low, run_low, run_reads, run_only}
use Rattle.xml.proofs.Language.{reads_suffix}
use Rattle.readers.specs.Read.{expect, seek}
use Rattle.readers.specs.Plain.{text_of, comment_of, section_of}
use Rattle.readers.specs.Meaning.{Chars, Decides, TextIs}
use Rattle.readers.proofs.Combine.{lit_sound, lit_complete, lit_then, all_low}

-- ---- texts that differ

-- the two texts differ at a place that both have
abbrev pub clash : List ℕ → List ℕ → Bool
clash [] v = false
clash (x ∷ w) [] = false
clash (x ∷ w) (y ∷ v) = cond (eqb x y) (clash w v) true

pub clash_not : (w v t : List ℕ) → clash w v ≡ true → begins v (w ++ t) ≡ false
clash_not [] v t h = absurd (false≢true h)
clash_not (x ∷ w) [] t h = absurd (false≢true h)
clash_not (x ∷ w) (y ∷ v) t h = go (eqb x y) (clash_not w v t) h
  where
    go : (b : Bool) → (clash w v ≡ true → begins v (w ++ t) ≡ false) → cond b (clash w v) true ≡ true → b && begins v (w ++ t) ≡ false
    go true f q = f q
    go false f q = refl

-- ---- passing a character

-- what passes each byte from 0x80 on, and the character where it is ASCII, passes it
pub pass_char : {A : Type 0} (f : List ℕ → A) → ((b : ℕ) (s : List ℕ) → 0x80 ≤ b → f (b ∷ s) ≡ f s) → (c : ℕ) (s : List ℕ)
    → (c < 0x80 → utf8 c ≡ c ∷ [] → f (c ∷ s) ≡ f s) → f (utf8 c ++ s) ≡ f s
pass_char f high c s low = go (ltb c 0x80) refl
  where
    go : (b : Bool) → ltb c 0x80 ≡ b → f (utf8 c ++ s) ≡ f s
    go true h = let l = ltb-true c 0x80 h in let e = utf8_low c l in rw e (low l e)
    go false h = pass_high f high c s (ltb-false c 0x80 h)

-- a text whose first byte is ASCII stands at no other character
pub begins_other : (x c : ℕ) (w s : List ℕ) → x < 0x80 → is_scalar c ≡ true → (c ≡ x → ⊥) → begins (x ∷ w) (utf8 c ++ s) ≡ false
begins_other x c w s l k n = go (begins (x ∷ w) (utf8 c ++ s)) refl
  where
    go : (b : Bool) → begins (x ∷ w) (utf8 c ++ s) ≡ b → b ≡ false
    go true e = absurd (n (sym (low_first l k (sym (begins_split (x ∷ w) (utf8 c ++ s) e))).0))
    go false e = refl

-- ---- the first place of a text

pub seek_found : (w s : List ℕ) → begins w s ≡ true → seek w s ≡ s
unfolding seek
seek_found w [] h = refl
seek_found w (b ∷ s) h = rw h

pub seek_byte : (w : List ℕ) (b : ℕ) (s : List ℕ) → begins w (b ∷ s) ≡ false → seek w (b ∷ s) ≡ seek w s
unfolding seek
seek_byte w b s h = rw h

-- a character at which the text does not stand is passed
pub seek_char : (x : ℕ) (w : List ℕ) → x < 0x80 → (c : ℕ) (s : List ℕ) → begins (x ∷ w) (utf8 c ++ s) ≡ false
    → seek (x ∷ w) (utf8 c ++ s) ≡ seek (x ∷ w) s
seek_char x w l c s h =
    pass_char (seek (x ∷ w)) (λ b t g. seek_byte (x ∷ w) b t (rw (ne_eqb b x (λ q. omega arith)))) c s
    (λ g e. seek_byte (x ∷ w) c s (rw e at h))

-- it is no later than any place where w stands
pub seek_early : (w u k : List ℕ) → begins w k ≡ true → length k ≤ length (seek w (u ++ k))
unfolding seek
seek_early w [] k h = rw (seek_found w k h) (omega arith)
seek_early w (y ∷ u) k h = go (begins w (y ∷ u ++ k)) (seek_early w u k h)
  where
    go : (b : Bool) → length k ≤ length (seek w (u ++ k)) → length k ≤ length (cond b (y ∷ u ++ k) (seek w (u ++ k)))
    go true q = omega (arith, length-append u k)
    go false q = q

-- up to it there are characters
pub seek_chars : (x : ℕ) (w : List ℕ) → x < 0x80 → {s : List ℕ} → Chars s → Star (Reads Char) s (seek (x ∷ w) s)
unfolding seek
seek_chars x w l done = done
seek_chars x w l (more {s = s} {m = m} (c, k, p, e) d) = go (begins (x ∷ w) s) refl (seek_chars x w l d)
  where
    go : (b : Bool) → begins (x ∷ w) s ≡ b → Star (Reads Char) m (seek (x ∷ w) m) → Star (Reads Char) s (seek (x ∷ w) s)
    go true h a = rw (seek_found (x ∷ w) s h) done
    go false h a = rw (ap (seek (x ∷ w)) e ∙ seek_char x w l c m (rw e at h)) (more (c, k, p, e) a)

-- ---- what ends at the first w

-- no end of v is the beginning of w
abbrev pub endless : List ℕ → List ℕ → Bool
endless w [] = true
endless w (y ∷ v) = clash (y ∷ v) w && endless w v

-- w is not empty, and no end of it but itself is the beginning of w
abbrev pub borderless : List ℕ → Bool
borderless [] = false
borderless (x ∷ w) = endless (x ∷ w) w

-- (Char* - (Char* w Char*)) w
abbrev pub UpTo : List ℕ → Rule
UpTo w = (Char ∗ ∖ (Char ∗ ⨾ lit w ⨾ Char ∗)) ⨾ lit w

abbrev pub upto_of : List ℕ → List ℕ → Option (List ℕ)
upto_of w s = expect w (seek w s)

-- characters up to a place where w stands go past v, no end of which is the beginning of w
pub past : (w v n : List ℕ) {m : List ℕ} → all_low v ≡ true → endless w v ≡ true → begins w m ≡ true
    → Star (Reads Char) (v ++ n) m → Star (Reads Char) n m
past w [] n a b h d = d
past w (y ∷ v) n {m} a b h d =
    go d refl (past w v n (and_right (ltb y 0x80) _ a) (and_right (clash (y ∷ v) w) _ b) h)
  where
    go : {s : List ℕ} → Star (Reads Char) s m → s ≡ y ∷ v ++ n → (Star (Reads Char) (v ++ n) m → Star (Reads Char) n m)
        → Star (Reads Char) n m
    go done e f = absurd (true-false h (ap (begins w) e ∙ clash_not (y ∷ v) w n (and_left (clash (y ∷ v) w) _ b)))
    go (more {m = k} (c, i, p, q) d) e f =
        f (rw (low_first (ltb-true y 0x80 (and_left (ltb y 0x80) _ a)) i (sym e ∙ q)).1 d)

module _ (x : ℕ) (w : List ℕ) (l : all_low (x ∷ w) ≡ true) (o : borderless (x ∷ w) ≡ true) where
  low : x < 0x80
  low = ltb-true x 0x80 (and_left (ltb x 0x80) _ l)

  -- characters among which w does not stand end at its first place
  upto_run : {s m : List ℕ} → Star (Reads Char) s m → (Reads (Char ∗ ⨾ lit (x ∷ w) ⨾ Char ∗) s m → ⊥) → begins (x ∷ w) m ≡ true
      → seek (x ∷ w) s ≡ m
  upto_run {s} done never h = seek_found (x ∷ w) s h
  upto_run (more {s = s} {m = k} {t = m} (c, i, p, e) d) never h = go (begins (x ∷ w) s) refl (λ f. upto_run d f h)
    where
      go : (b : Bool) → begins (x ∷ w) s ≡ b → ((Reads (Char ∗ ⨾ lit (x ∷ w) ⨾ Char ∗) k m → ⊥) → seek (x ∷ w) k ≡ m) → seek (x ∷ w) s ≡ m
      go true q f =
          let n = drop (length (x ∷ w)) s in
          let z : s ≡ x ∷ w ++ n = begins_split (x ∷ w) s q in
          let g : w ++ n ≡ k = (low_first low i (sym z ∙ e)).1 in
          absurd (never (s, done, (n, z, past (x ∷ w) w n (and_right (ltb x 0x80) _ l) o h (rw g d))))
      go false q f =
          ap (seek (x ∷ w)) e ∙ seek_char x w low c k (rw e at q)
          ∙ f (λ (k', a, b). never (k', more (c, i, p, e) a, b))

  -- w stands nowhere before its first place
  pub upto_first : (s t : List ℕ) → seek (x ∷ w) s ≡ x ∷ w ++ t → Reads (Char ∗ ⨾ lit (x ∷ w) ⨾ Char ∗) s (x ∷ w ++ t) → ⊥
  upto_first s t q (k, a, (n, e, b)) =
      let (u, p) = reads_suffix (Char ∗) s k a in
      let (v, r) = reads_suffix (Char ∗) n (x ∷ w ++ t) b in
      let g = seek_early (x ∷ w) u k (ap (begins (x ∷ w)) e ∙ begins_append (x ∷ w) n) in
      let g₁ : length (seek (x ∷ w) (u ++ k)) ≡ suc (length (w ++ t)) = ap length (ap (seek (x ∷ w)) (sym p) ∙ q) in
      let g₂ : length k ≡ suc (length (w ++ n)) = ap length e in
      let g₃ : length n ≡ length v + suc (length (w ++ t)) = ap length r ∙ length-append v (x ∷ w ++ t) in
      omega (arith, length-append w t, length-append w n)

  upto_cons : Decides (UpTo (x ∷ w)) (upto_of (x ∷ w))
  upto_cons =
      record {
        sound = λ {s} {t} d e.
            let q = lit_sound (x ∷ w) (seek (x ∷ w) s) t e in
            (x ∷ w ++ t, (rw (← q) (seek_chars x w low d), upto_first s t q), refl);
        complete = λ {s} {t} d (m, (a, b), e).
            rw (upto_run a b (ap (begins (x ∷ w)) e ∙ begins_append (x ∷ w) t)) (lit_complete (x ∷ w) m t e);
      }

pub upto_decides : (w : List ℕ) → all_low w ≡ true → borderless w ≡ true → Decides (UpTo w) (upto_of w)
upto_decides [] l o = absurd (false≢true o)
upto_decides (x ∷ w) l o = upto_cons x w l o

-- ---- [18] CDSect

pub section_decides : Decides CDSect section_of
unfolding section_of
section_decides = lit_then (bytes "<![CDATA[") refl (upto_decides (bytes "]]>") refl refl)

-- ---- [15] Comment

abbrev Undashed : Rule
Undashed = Char ∖ text "-"

abbrev Dashed : Rule
Dashed = Undashed ∣ text "-" ⨾ Undashed

undashed : (c : ℕ) {s m : List ℕ} → is_scalar c ≡ true → is_char c ≡ true → (c ≡ 0x2D → ⊥) → s ≡ utf8 c ++ m → Reads Undashed s m
undashed c k p n e = ((c, k, p, e), λ q. n (sym (low_first (lit< tt) k (sym q ∙ e)).0))

-- a piece of the comment's text is passed
undashed_seek : {s m : List ℕ} → Reads Undashed s m → (begins (bytes "-") s ≡ false) × (seek (bytes "--") s ≡ seek (bytes "--") m)
undashed_seek {s} {m} ((c, k, p, e), n) =
    let d : c ≡ 0x2D → ⊥ = λ q. n (e ∙ rw (q, utf8_low 0x2D (lit< tt))) in
    let b : (w : List ℕ) → begins (0x2D ∷ w) (utf8 c ++ m) ≡ false = λ w. begins_other 0x2D c w m (lit< tt) k d in
    rw e (b [], seek_char 0x2D (bytes "-") (lit< tt) c m (b (bytes "-")))

dashed_seek : {s m : List ℕ} → Reads Dashed s m → seek (bytes "--") s ≡ seek (bytes "--") m
dashed_seek (inl r) = (undashed_seek r).1
dashed_seek (inr (k, e, r)) = let (a, b) = undashed_seek r in rw e (seek_byte (bytes "--") 0x2D k (rw a) ∙ b)

dashed_run : {s m : List ℕ} (t : List ℕ) → Star (Reads Dashed) s m → m ≡ 0x2D ∷ 0x2D ∷ t → seek (bytes "--") s ≡ m
dashed_run {s} t done e = seek_found (bytes "--") s (rw e)
dashed_run t (more r rs) e = dashed_seek r ∙ dashed_run t rs e

-- up to the first `--`, from s and from a dash before it
module _ (t : List ℕ) where
  abbrev Found : List ℕ → Type 0
  Found s = seek (bytes "--") s ≡ 0x2D ∷ 0x2D ∷ t → Star (Reads Dashed) s (0x2D ∷ 0x2D ∷ t)

  seek_dashed : {s : List ℕ} → Chars s → Found s × Found (0x2D ∷ s)
  unfolding seek
  seek_dashed done = (λ q. absurd (nil≢cons q), λ q. absurd (nil≢cons q))
  seek_dashed (more {s = s} {m = m} (c, k, p, e) d) = go (eqb c 0x2D) refl (seek_dashed d)
    where
      go : (b : Bool) → eqb c 0x2D ≡ b → Found m × Found (0x2D ∷ m) → Found s × Found (0x2D ∷ s)
      go true h (f, g) =
          let z : s ≡ 0x2D ∷ m = e ∙ rw (eqb-true c 0x2D h, utf8_low 0x2D (lit< tt)) in
          (rw z g, rw z (λ q. rw q done))
      go false h (f, g) =
          let r : Reads Undashed s m = undashed c k p (eqb-false c 0x2D h) e in
          let r' : Reads Dashed (0x2D ∷ s) m = inr (s, refl, r) in
          (λ q. more (inl r) (f (sym (dashed_seek (inl r)) ∙ q)), λ q. more r' (f (sym (dashed_seek r') ∙ q)))

dashed_decides : Decides (Dashed ∗ ⨾ text "-->") (λ s. expect (bytes "-->") (seek (bytes "--") s))
dashed_decides =
    record {
      sound = λ {s} {t} d e.
          let q = lit_sound (bytes "-->") (seek (bytes "--") s) t e in
          (bytes "-->" ++ t, (seek_dashed (0x3E ∷ t) d).0 q, refl);
      complete = λ {s} {t} d (m, r, e). rw (dashed_run (0x3E ∷ t) r e) (lit_complete (bytes "-->") m t e);
    }

pub comment_decides : Decides Comment comment_of
unfolding comment_of
comment_decides = lit_then (bytes "<!--") refl dashed_decides

-- ---- [14] CharData

abbrev pub Plain : Rule
Plain = char (except "<&")

-- where text stops
abbrev pub Stops : List ℕ → Type 0
Stops t = (t ≡ []) ⊎ ((u : List ℕ) × Reads (text "<" ∣ text "&") t u)

-- [^..]: a Char that is none of these
pub except_not : (xs : String) (c : ℕ) → except xs c ≡ true → among (bytes xs) c ≡ false
unfolding except
except_not xs c p = not-true (among (bytes xs) c) (and_right (is_char c) _ p)

pub not_except : (xs : String) (c : ℕ) → is_char c ≡ true → among (bytes xs) c ≡ false → except xs c ≡ true
unfolding except
not_except xs c p n = rw (p, n)

two_marks : (c : ℕ) → among (bytes "<&") c ≡ eqb c 0x3C || eqb c 0x26
two_marks c = ap (λ (b : Bool). eqb c 0x3C || b) (or-false (eqb c 0x26))

-- a plain character is passed, where `]]>` does not stand
pub text_pass : (c : ℕ) (m : List ℕ) → is_scalar c ≡ true → except "<&" c ≡ true
    → text_of (utf8 c ++ m) ≡ cond (begins (bytes "]]>") (utf8 c ++ m)) none (text_of m)
unfolding text_of
text_pass c m k p = go (ltb c 0x80) refl
  where
    go : (b : Bool) → ltb c 0x80 ≡ b → text_of (utf8 c ++ m) ≡ cond (begins (bytes "]]>") (utf8 c ++ m)) none (text_of m)
    go true h = rw (utf8_low c (ltb-true c 0x80 h), sym (two_marks c) ∙ except_not "<&" c p)
    go false h =
        let l = ltb-false c 0x80 h in
        rw (begins_other 0x5D c (bytes "]>") m (lit< tt) k (λ q. omega arith))
        (pass_high text_of (λ b s g. rw (ne_eqb b 0x3C (omega arith), ne_eqb b 0x26 (omega arith), ne_eqb b 0x5D (omega arith))) c m l)

text_on : {t : List ℕ} (c : ℕ) (m : List ℕ) → is_scalar c ≡ true → except "<&" c ≡ true → text_of (utf8 c ++ m) ≡ some t
    → text_of m ≡ some t
text_on {t} c m k p e = go (begins (bytes "]]>") (utf8 c ++ m)) (sym (text_pass c m k p) ∙ e)
  where
    go : (b : Bool) → cond b none (text_of m) ≡ some t → text_of m ≡ some t
    go true q = absurd (none-ne-some t q)
    go false q = q

-- no plain characters lead to `]]>`
text_run : {s m t : List ℕ} → Star (Reads Plain) s m → text_of s ≡ some t → text_of m ≡ some t
text_run done e = e
text_run (more {m = m} (c, k, p, q) rs) e = text_run rs (text_on c m k p (rw q at e))

pub text_never : {s t : List ℕ} → text_of s ≡ some t → Reads (Plain ∗ ⨾ text "]]>" ⨾ Plain ∗) s t → ⊥
unfolding text_of
text_never {t = t} h (m, a, (n, e, b)) = none-ne-some t (rw e at (text_run a h))

text_reads : {s t : List ℕ} → Chars s → text_of s ≡ some t → Star (Reads Plain) s t × Stops t
unfolding text_of
text_reads {t = t} done e = rw (← some-injective [] t e) (done, inl refl)
text_reads {t = t} (more {s = s} {m = m} (c, k, p, q) d) e = go (eqb c 0x3C || eqb c 0x26) refl (λ q. text_reads d q)
  where
    mark : (eqb c 0x3C ≡ true) ⊎ (eqb c 0x26 ≡ true) → (c < 0x80) × Stops (c ∷ m)
    mark (inl h) = let z = eqb-true c 0x3C h in rw z (lit< tt, inr (m, inl refl))
    mark (inr h) = let z = eqb-true c 0x26 h in rw z (lit< tt, inr (m, inr refl))

    go : (b : Bool) → eqb c 0x3C || eqb c 0x26 ≡ b → (text_of m ≡ some t → Star (Reads Plain) m t × Stops t)
        → Star (Reads Plain) s t × Stops t
    go true h f =
        let (l, z) = mark (or_either (eqb c 0x3C) _ h) in
        let w : s ≡ c ∷ m = q ∙ rw (utf8_low c l) in
        let r : text_of (c ∷ m) ≡ some (c ∷ m) = rw h in
        rw (w, ← some-injective (c ∷ m) t (sym r ∙ ap text_of (sym w) ∙ e)) (done, z)
    go false h f =
        let x = not_except "<&" c p (two_marks c ∙ h) in
        let (rs, z) = f (text_on c m k x (ap text_of (sym q) ∙ e)) in
        (more (c, k, x, q) rs, z)

pub text_sound : {s t : List ℕ} → Chars s → text_of s ≡ some t → TextIs s t
text_sound d e = let (rs, z) = text_reads d e in record { reads = (rs, text_never e); stops = z }

stops_starts : (t : List ℕ) → Stops t → starts (except "<&") t ≡ false
unfolding except is_char
stops_starts t (inl e) = rw e (starts_nil (except "<&"))
stops_starts t (inr (u, inl e)) = rw e (starts_low (except "<&") 0x3C u (lit< tt))
stops_starts t (inr (u, inr e)) = rw e (starts_low (except "<&") 0x26 u (lit< tt))

-- where `]]>` stands, plain characters up to the stop follow it
pub past_end : {s t : List ℕ} (n : List ℕ) → Star (Reads Plain) s t → Stops t → s ≡ bytes "]]>" ++ n → Star (Reads Plain) n t
unfolding except is_char
past_end {s} {t} n rs h e = rw (← same) (run_reads (except "<&") n)
  where
    one : (b : ℕ) (m : List ℕ) → b < 0x80 → except "<&" b ≡ true → run (except "<&") 0 (b ∷ m) ≡ run (except "<&") 0 m
    one b m l p = run_low (except "<&") b m l ∙ rw p

    same : run (except "<&") 0 n ≡ t
    same =
        sym (ap (run (except "<&") 0) e ∙ one 0x5D _ (lit< tt) refl ∙ one 0x5D _ (lit< tt) refl ∙ one 0x3E n (lit< tt) refl)
        ∙ run_only (except "<&") rs (stops_starts t h)

text_all : {s t : List ℕ} → Star (Reads Plain) s t → (Reads (Plain ∗ ⨾ text "]]>" ⨾ Plain ∗) s t → ⊥) → Stops t → text_of s ≡ some t
unfolding text_of
text_all done n (inl e) = rw e
text_all done n (inr (u, inl e)) = rw e
text_all done n (inr (u, inr e)) = rw e
text_all (more {s = s} {m = m} {t = t} (c, k, p, q) rs) n h =
    ap text_of q ∙ text_pass c m k p ∙ go (begins (bytes "]]>") (utf8 c ++ m)) refl (λ f. text_all rs f h)
  where
    go : (b : Bool) → begins (bytes "]]>") (utf8 c ++ m) ≡ b
        → ((Reads (Plain ∗ ⨾ text "]]>" ⨾ Plain ∗) m t → ⊥) → text_of m ≡ some t) → cond b none (text_of m) ≡ some t
    go true z f =
        let e = q ∙ begins_split (bytes "]]>") (utf8 c ++ m) z in
        absurd (n (s, done, (_, e, past_end _ (more (c, k, p, q) rs) h e)))
    go false z f = f (λ (k', a, b). n (k', more (c, k, p, q) a, b))

pub text_complete : {s t : List ℕ} → Chars s → TextIs s t → text_of s ≡ some t
text_complete d x = let (rs, n) = x.reads in text_all rs n x.stops
