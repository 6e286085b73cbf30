-- Bytes between places: what stands from one place of a document to another, by what is left at each. Then what stops a text, and runs of
-- characters of a class: a run of white space is text, and a text that is blank is white space.
use mathlib.Core.Path.{◌≡◌, refl, sym, ap, ◌∙◌}
use mathlib.Core.Bool.{Bool, true, false, not, false≢true}
use mathlib.Core.List.{List, [], ◌∷◌, ◌++◌}
use mathlib.Core.Logic.{◌⊎◌, inl, inr}
use Prim.Native.Nat.{ℕ, ◌+◌, ◌-◌, ◌≤◌, ◌<◌}
use native.Mathlib.Omega.{arith}
use borrow.Author.Tests.{leb-true}
use lib.Dec.{lit<}
use lib.ListN.{length, take, drop, length-append, length-drop, take-append-drop}
use lib.Seq.{drop-drop, drop_at, take-append_seam}
use Rattle.xml.specs.Notation.{Reads, Star, done, more, char, plus, text, ◌∣◌}
use Rattle.xml.specs.Productions.{S, is_char, is_space, except}
use Rattle.xml.specs.Document.{Some}
use Rattle.xml.specs.Character.{starts, run}
use Rattle.xml.proofs.Run.{starts_nil, starts_low, reads_starts, reads_rest, run_step, run_only, run_length}
use Rattle.utf8.specs.Place.{Stands}
use Rattle.chars.specs.Space.{space_end}
use Rattle.chars.proofs.Meaning.{space_says}
use Rattle.readers.specs.Meaning.{TextIs}
use Rattle.readers.proofs.Follow.{space_none}
use Rattle.document.specs.Place.{blank}
use Rattle.trees.specs.Grown.{part}

-- ---- places

pub part_left : (d : List ℕ) (a e : ℕ) → a ≤ e → drop a d ≡ part d a e ++ drop e d
part_left d a e l =
    let z : a + (e - a) ≡ e = omega arith in
    sym (take-append-drop (e - a) (drop a d))
    ∙ ap (λ (r : List ℕ). part d a e ++ r) (drop-drop (e - a) a d ∙ ap (λ (k : ℕ). drop k d) z)

pub part_is : (d w t : List ℕ) (a e : ℕ) → drop a d ≡ w ++ t → Stands d e t → a ≤ e → part d a e ≡ w
part_is d w t a e q p l =
    let x : length (drop a d) ≡ length w + length t = ap length q ∙ length-append w t in
    let y : length (drop e d) ≡ length t = ap length p.rest in
    let i : e ≤ length d = p.inside in
    let z : e - a ≡ length w = omega (arith, length-drop a d, length-drop e d) in
    ap (λ (k : ℕ). take k (drop a d)) z ∙ ap (take (length w)) q ∙ take-append_seam w t

pub part_long : (d : List ℕ) (a e : ℕ) → a < e → e ≤ length d → 0 < length (part d a e)
part_long d a e l h =
    let x : length (drop a d) ≡ length (part d a e) + length (drop e d)
    = ap length (part_left d a e (omega arith)) ∙ length-append (part d a e) (drop e d) in
    omega (arith, length-drop a d, length-drop e d)

pub long_some : (w : List ℕ) → 0 < length w → Some w
long_some [] l = absurd (omega arith)
long_some (b ∷ w) l = tt

-- what follows w
pub drop_past : (d w t : List ℕ) (a : ℕ) → drop a d ≡ w ++ t → drop (a + length w) d ≡ t
drop_past d w t a q = sym (drop-drop (length w) a d) ∙ ap (drop (length w)) q ∙ drop_at w t (length w) refl

-- ---- what stops a text

abbrev pub Stops : List ℕ → Type 0
Stops t = (t ≡ []) ⊎ ((u : List ℕ) × Reads (text "<" ∣ text "&") t u)

pub stops_off : (p : ℕ → Bool) → p 0x3C ≡ false → p 0x26 ≡ false → (t : List ℕ) → Stops t → starts p t ≡ false
stops_off p h k t (inl e) = rw e (starts_nil p)
stops_off p h k t (inr (u, inl e)) = ap (starts p) e ∙ starts_low p 0x3C u (lit< tt) ∙ h
stops_off p h k t (inr (u, inr e)) = ap (starts p) e ∙ starts_low p 0x26 u (lit< tt) ∙ k

-- text does not stand where text stops
pub stops_text : (t : List ℕ) → Stops t → starts (except "<&") t ≡ false
unfolding except is_char
stops_text = stops_off (except "<&") refl refl

pub stops_space : (t : List ℕ) → Stops t → starts is_space t ≡ false
unfolding is_space
stops_space = stops_off is_space refl refl

-- ---- runs

pub run_along : (p : ℕ → Bool) {s t : List ℕ} → Star (Reads (char p)) s t → run p 0 s ≡ run p 0 t
run_along p done = refl
run_along p (more {s = s} {m = m} r rs) = run_step p s (reads_starts p s m r) ∙ ap (run p 0) (reads_rest p s m r) ∙ run_along p rs

-- a class inside another
pub run_wider : {p q : ℕ → Bool} → ((c : ℕ) → p c ≡ true → q c ≡ true) → {s t : List ℕ} → Star (Reads (char p)) s t
    → Star (Reads (char q)) s t
run_wider f done = done
run_wider f (more (c, k, h, e) rs) = more (c, k, f c h, e) (run_wider f rs)

pub run_some : (p : ℕ → Bool) {s t : List ℕ} → Star (Reads (char p)) s t → length t < length s → Reads (plus (char p)) s t
run_some p done l = absurd (omega arith)
run_some p (more {m = m} r rs) l = (m, r, rs)

-- ---- white space

not-not : (b : Bool) → not b ≡ false → b ≡ true
not-not true e = refl
not-not false e = absurd (false≢true (sym e))

pub space_plain : (c : ℕ) → is_space c ≡ true → except "<&" c ≡ true
unfolding except is_char
space_plain c h = not-not (except "<&" c) (space_none (λ c. not (except "<&" c)) refl c h)

-- a text that is blank is white space
pub blank_space : (d : List ℕ) (at e : ℕ) → TextIs (drop at d) (drop e d) → at < e → e ≤ length d → blank d at e ≡ true
    → Reads S (drop at d) (drop e d)
unfolding blank
blank_space d at e x l h b =
    let z = space_end d at in
    let y = space_says d at in
    let i : z ≤ length d = y.inside (omega arith) in
    let j : e ≤ z = leb-true e z b in
    let p = except "<&" in
    let r : run p 0 (drop z d) ≡ drop e d
    = sym (run_along p (run_wider space_plain y.reads)) ∙ run_only p x.reads.0 (stops_text (drop e d) x.stops) in
    let n : length (run p 0 (drop z d)) ≤ length (drop z d) = run_length p (drop z d) in
    let m : length (run p 0 (drop z d)) ≡ length (drop e d) = ap length r in
    let q : z ≡ e = omega (arith, length-drop z d, length-drop e d) in
    run_some is_space (rw q at y.reads) (omega (arith, length-drop at d, length-drop e d))
