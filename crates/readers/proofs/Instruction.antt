-- Instructions, [16] PI. In order: `xml` in any case; the target; what follows the target, `?>` or white space and all up to the first
-- `?>`.
use mathlib.Core.Path.{◌≡◌, refl, sym, ap, ◌∙◌}
use mathlib.Core.Bool.{Bool, true, false, cond, ◌||◌, false≢true}
use mathlib.Core.List.{List, [], ◌∷◌, ◌++◌}
use mathlib.Core.Logic.{◌⊎◌, inl, inr}
use mathlib.Core.Option.{none, some, none-ne-some, some-injective}
use Prim.Native.Nat.{ℕ}
use lib.ListN.{drop}
use lib.Dec.{eqb, lit<}
use borrow.Author.Tests.{eqb-true, eq-eqb}
use Rattle.xml.specs.Notation.{Rule, Reads, Star, done, more, lit, char, text, bytes, opt, among, ◌⨾◌, ◌∖◌, ◌∣◌, ◌∗}
use Rattle.xml.specs.Productions.{Char, is_space, is_name, is_name_start, is_name_more, S, Name, PITarget, PI}
use Rattle.xml.specs.Character.{character, starts, wide}
use Rattle.xml.proofs.Bools.{and_left, and_right, and_both, or_either, or_left, or_right, true-false}
use Rattle.xml.proofs.Utf8.{utf8_low}
use Rattle.xml.proofs.Run.{starts_reads, reads_starts}
use Rattle.xml.proofs.Language.{reads_suffix}
use Rattle.chars.specs.Name.{name_of}
use Rattle.readers.specs.Read.{expect, seek}
use Rattle.readers.specs.Named.{before, is_xml, target_of, instruction_end, instruction_of}
use Rattle.readers.specs.Meaning.{Chars, characters, Decides}
use Rattle.readers.proofs.Combine.{then_some, lit_decides, lit_then, lit_sound, alt_decides, same_decides, Apart}
use Rattle.readers.proofs.Combine.{chars_char, chars_left}
use Rattle.readers.proofs.Follow.{ascii, Off, off_lit, off_opt, off_then, off_space, space_none, space_low, space_name}
use Rattle.readers.proofs.Follow.{Takes, takes_then, name_takes}
use Rattle.readers.proofs.Left.{before_is}
use Rattle.readers.proofs.Plain.{UpTo, upto_of, upto_decides}

-- ---- `xml` in any case

-- one of two letters
pub either_byte : (a b : ℕ) (s t : List ℕ) → Reads (lit (a ∷ []) ∣ lit (b ∷ [])) s t → (c : ℕ) × (s ≡ c ∷ t) × (among (a ∷ b ∷ []) c ≡ true)
either_byte a b s t (inl e) = (a, e, or_left (eqb a a) _ (eq-eqb a a refl))
either_byte a b s t (inr e) = (b, e, or_right (eqb b a) _ (or_left (eqb b b) _ (eq-eqb b b refl)))

pub byte_either : (a b c : ℕ) (t : List ℕ) → among (a ∷ b ∷ []) c ≡ true → Reads (lit (a ∷ []) ∣ lit (b ∷ [])) (c ∷ t) t
byte_either a b c t h = go (or_either (eqb c a) _ h)
  where
    last : (eqb c b ≡ true) ⊎ (false ≡ true) → Reads (lit (a ∷ []) ∣ lit (b ∷ [])) (c ∷ t) t
    last (inl e) = inr (rw (eqb-true c b e))
    last (inr e) = absurd (false≢true e)

    go : (eqb c a ≡ true) ⊎ (eqb c b || false ≡ true) → Reads (lit (a ∷ []) ∣ lit (b ∷ [])) (c ∷ t) t
    go (inl e) = inl (rw (eqb-true c a e))
    go (inr e) = last (or_either (eqb c b) false e)

abbrev Xml : Rule
Xml = (text "X" ∣ text "x") ⨾ (text "M" ∣ text "m") ⨾ (text "L" ∣ text "l")

reads_xml : (s t : List ℕ) → Reads Xml s t → is_xml (before s t) ≡ true
reads_xml s t (i, x, (j, y, z)) =
    let (a, p, f) = either_byte 0x58 0x78 s i x in
    let (b, q, g) = either_byte 0x4D 0x6D i j y in
    let (c, r, h) = either_byte 0x4C 0x6C j t z in
    let e : s ≡ (a ∷ b ∷ c ∷ []) ++ t = p ∙ ap (λ (l : List ℕ). a ∷ l) (q ∙ ap (λ (l : List ℕ). b ∷ l) r) in
    rw (before_is (a ∷ b ∷ c ∷ []) t e)
    (and_both (among (bytes "Xx") a) _ f (and_both (among (bytes "Mm") b) _ g h))

xml_reads : (w t : List ℕ) → is_xml w ≡ true → Reads Xml (w ++ t) t
xml_reads [] t h = absurd (false≢true h)
xml_reads (a ∷ []) t h = absurd (false≢true h)
xml_reads (a ∷ b ∷ []) t h = absurd (false≢true h)
xml_reads (a ∷ b ∷ c ∷ []) t h =
    let k = and_right (among (bytes "Xx") a) _ h in (
      b ∷ c ∷ t,
      byte_either 0x58 0x78 a (b ∷ c ∷ t) (and_left (among (bytes "Xx") a) _ h),
      (
        c ∷ t,
        byte_either 0x4D 0x6D b (c ∷ t) (and_left (among (bytes "Mm") b) _ k),
        byte_either 0x4C 0x6C c t (and_right (among (bytes "Mm") b) _ k),
      ),
    )
xml_reads (a ∷ b ∷ c ∷ d ∷ w) t h = absurd (false≢true h)

-- ---- the target

pub target_takes : {b : Rule} → Off is_name b → Takes PITarget target_of b
unfolding target_of
target_takes {b} n =
    record {
      sound = λ {s} {m} d e.
          let (i, p, q) = then_some (name_of s) (λ t. cond (is_xml (before s t)) none (some t)) m e in
          let (h, k) = kept i m (is_xml (before s i)) q in
          rw (← k) ((name_takes {o = characters} n).sound d p, λ x. true-false (reads_xml s i x) h);
      complete = λ {s} {m} t d (x, y) z.
          let (w, e) = reads_suffix Name s m x in
          rw ((name_takes {o = characters} n).complete t d x z, before_is w m e, other w (is_xml w) refl (λ h. y (rw e (xml_reads w m h))));
    }
  where
    kept : (i m : List ℕ) (x : Bool) → cond x none (some i) ≡ some m → (x ≡ false) × (i ≡ m)
    kept i m true e = absurd (none-ne-some m e)
    kept i m false e = (refl, some-injective _ _ e)

    other : (w : List ℕ) (x : Bool) → is_xml w ≡ x → (is_xml w ≡ true → ⊥) → is_xml w ≡ false
    other w true e y = absurd (y e)
    other w false e y = e

-- ---- after the target

-- white space is no `?`
seek_space : (s t : List ℕ) → Reads (char is_space) s t → seek (bytes "?>") s ≡ seek (bytes "?>") t
unfolding seek
seek_space s t (c, k, h, e) =
    ap (seek (bytes "?>")) (e ∙ ap (λ (w : List ℕ). w ++ t) (utf8_low c (space_low c h)))
    ∙ rw (space_none (λ x. eqb x 0x3F) refl c h)

seek_spaces : {s t : List ℕ} → Star (Reads (char is_space)) s t → seek (bytes "?>") s ≡ seek (bytes "?>") t
seek_spaces done = refl
seek_spaces (more {s = s} {m = m} x xs) = seek_space s m x ∙ seek_spaces xs

-- up to the first `?>`
end_first : Decides (UpTo (bytes "?>")) (upto_of (bytes "?>"))
end_first = upto_decides (bytes "?>") refl refl

abbrev After : Rule
After = opt (S ⨾ (Char ∗ ∖ (Char ∗ ⨾ text "?>" ⨾ Char ∗))) ⨾ text "?>"

after_off : Off is_name After
unfolding is_name is_name_start is_name_more
after_off = off_opt (off_then (off_space space_name)) (off_lit 0x3F (0x3E ∷ []) (lit< tt) refl)

to_after : (s t : List ℕ) → Reads (text "?>" ∣ S ⨾ UpTo (bytes "?>")) s t → Reads After s t
to_after s t (inl e) = (s, inl refl, e)
to_after s t (inr (i, x, (m, y, z))) = (m, inr (i, x, y), z)

from_after : (s t : List ℕ) → Reads After s t → Reads (text "?>" ∣ S ⨾ UpTo (bytes "?>")) s t
from_after s t (m, inl e, z) = inl (e ∙ z)
from_after s t (m, inr (i, x, y), z) = inr (i, x, (m, y, z))

apart_end : Apart (expect (bytes "?>")) (λ s. cond (starts is_space s) (upto_of (bytes "?>") s) none)
unfolding is_space
apart_end =
    record { apart = λ s t e. rw ((off_lit {p = is_space} 0x3F (0x3E ∷ []) (lit< tt) refl).off s t (lit_sound (bytes "?>") s t e)) }

spaced_body : Decides (S ⨾ UpTo (bytes "?>")) (λ s. cond (starts is_space s) (upto_of (bytes "?>") s) none)
spaced_body =
    record {
      sound = λ {s} {t} d e. from (starts is_space s) refl d e;
      complete = λ {s} {t} d (m, (i, x, y), z).
          rw (reads_starts is_space s i x)
          (ap (expect (bytes "?>")) (seek_spaces (more x y)) ∙ end_first.complete (chars_left S (ascii S refl) s m d (i, x, y)) z);
    }
  where
    from : {s t : List ℕ} (b : Bool) → starts is_space s ≡ b → Chars s → cond b (upto_of (bytes "?>") s) none ≡ some t
        → Reads (S ⨾ UpTo (bytes "?>")) s t
    from {s} {t} true h d e =
        let m = drop (wide (character s)) s in
        let x = starts_reads is_space s h in
        (m, (m, x, done), end_first.sound (chars_char is_space d x) (ap (expect (bytes "?>")) (sym (seek_space s m x)) ∙ e))
    from {s} {t} false h d e = absurd (none-ne-some t e)

end_decides : Decides After instruction_end
unfolding instruction_end
end_decides = same_decides to_after from_after (alt_decides (lit_decides (bytes "?>")) spaced_body apart_end)

pub instruction_decides : Decides PI instruction_of
unfolding instruction_of
instruction_decides = lit_then (bytes "<?") refl (takes_then (ascii PITarget refl) (target_takes after_off) end_decides)
