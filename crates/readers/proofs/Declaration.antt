-- The declaration, [23] XMLDecl. In order: what stands in quotes; a setting, S 'word' Eq and a quoted part, and where it does not stand;
-- version, encoding and standalone; all of it. A declaration is ASCII throughout, so all this holds on any bytes (`Rest`).
use mathlib.Core.Path.{◌≡◌, refl, sym, ap, ◌∙◌}
use mathlib.Core.Bool.{Bool, true, false, ◌||◌, false≢true}
use mathlib.Core.List.{List, [], ◌∷◌, ◌++◌}
use mathlib.Core.Logic.{◌⊎◌, inl, inr}
use mathlib.Core.Option.{Option, none}
use Prim.Native.Nat.{ℕ}
use lib.Dec.{lit<}
use borrow.Author.Tests.{eqb-true}
use Rattle.xml.specs.Range.{Range, ◌to◌, sign, only, inside, within}
use Rattle.xml.specs.Utf8.{utf8}
use Rattle.xml.specs.Notation.{Rule, Reads, Star, done, more, lit, char, text, bytes, opt, ◌⨾◌, ◌∣◌}
use Rattle.xml.specs.Productions.{is_space, S, Eq, VersionNum, VersionInfo, EncName, EncodingDecl, SDDecl, XMLDecl}
use Rattle.xml.specs.Encoding.{EncodingBy, DeclBy}
use Rattle.xml.specs.Character.{starts}
use Rattle.xml.proofs.Bools.{or_either, only_equal}
use Rattle.xml.proofs.Utf8.{utf8_low, scalar_ascii}
use Rattle.readers.specs.Read.{and_then, expect, space_of}
use Rattle.readers.specs.Value.{is_decimal}
use Rattle.readers.specs.Named.{in_quotes, setting_of, version_of, is_letter, is_encoding, encoding_of, yes_or_no, declaration_by}
use Rattle.readers.specs.Named.{declaration_of}
use Rattle.readers.specs.Meaning.{Rest, DecidesOn}
use Rattle.readers.proofs.Combine.{then_some, lit_sound, lit_decides, lit_then, seq_decides, alt_decides, same_decides}
use Rattle.readers.proofs.Combine.{all_low, Ascii, Apart}
use Rattle.readers.proofs.Follow.{ascii, Off, off_lit, off_then, off_either, TakesOn, decides_takes, takes_then, takes_both}
use Rattle.readers.proofs.Follow.{takes_opt, some_takes, led_takes, skip_then, space_then, eq_then, opt_then, space_is}

-- ---- in quotes

abbrev Single : Rule → Rule
Single a = text "'" ⨾ a ⨾ text "'"

abbrev Double : Rule → Rule
Double a = text "\"" ⨾ a ⨾ text "\""

-- where w stands, v does not
lit_apart : (w v : List ℕ) (f g : List ℕ → Option (List ℕ)) → ((t : List ℕ) → expect v (w ++ t) ≡ none)
    → Apart (λ s. and_then (expect w s) f) (λ s. and_then (expect v s) g)
lit_apart w v f g n =
    record { apart = λ s t e. let (m, p, q) = then_some (expect w s) f t e in rw (ap (expect v) (lit_sound w s m p) ∙ n m) }

quoted_decides : {o : Rest} {a : Rule} {f : List ℕ → Option (List ℕ)} → Ascii a → TakesOn o a f (text "'") → TakesOn o a f (text "\"")
    → DecidesOn o (Single a ∣ Double a) (in_quotes f)
unfolding expect
quoted_decides l k n =
    alt_decides (lit_then (bytes "'") refl (takes_then l k (lit_decides (bytes "'"))))
    (lit_then (bytes "\"") refl (takes_then l n (lit_decides (bytes "\""))))
    (lit_apart (bytes "'") (bytes "\"") _ _ (λ t. refl))

quoted_off : (a : Rule) → Off is_space (Single a ∣ Double a)
unfolding is_space
quoted_off a = off_either (off_then (off_lit _ _ (lit< tt) refl)) (off_then (off_lit _ _ (lit< tt) refl))

-- the quotes in the other order
swap : (a b : Rule) (s t : List ℕ) → Reads (a ∣ b) s t → Reads (b ∣ a) s t
swap a b s t (inl x) = inr x
swap a b s t (inr x) = inl x

-- ---- a setting

setting_decides : {o : Rest} {q : Rule} (f : List ℕ → Option (List ℕ)) (w : List ℕ) → all_low w ≡ true → Off is_space (lit w)
    → Off is_space q
    → DecidesOn o q (in_quotes f) → DecidesOn o (S ⨾ lit w ⨾ Eq ⨾ q) (setting_of w f)
setting_decides f w l n o k = space_then (lit_then w l (eq_then k o)) (off_then n)

-- where there is no white space, or something else after it, the setting does not stand
setting_none : (w : List ℕ) (f : List ℕ → Option (List ℕ)) {s m : List ℕ} → Reads (opt S) s m → starts is_space m ≡ false
    → expect w m ≡ none → setting_of w f s ≡ none
unfolding space_of
setting_none w f (inl e) n h = rw (ap (starts is_space) e ∙ n)
setting_none w f (inr x) n h = rw (space_is x n, h)

-- ---- version, encoding, standalone

version_takes : {o : Rest} {b : Rule} → Off is_decimal b → TakesOn o VersionNum version_of b
unfolding version_of is_decimal
version_takes n = takes_both refl (decides_takes (lit_decides (bytes "1."))) (some_takes n)

pub version_decides : {o : Rest} → DecidesOn o VersionInfo (setting_of (bytes "version") version_of)
unfolding is_space is_decimal
version_decides =
    setting_decides version_of (bytes "version") refl (off_lit _ _ (lit< tt) refl) (quoted_off VersionNum)
    (quoted_decides (ascii VersionNum refl) (version_takes (off_lit _ _ (lit< tt) refl)) (version_takes (off_lit _ _ (lit< tt) refl)))

within_more : (rs qs : List Range) (c : ℕ) → within rs c ≡ true → within (rs ++ qs) c ≡ true
within_more [] qs c h = absurd (false≢true h)
within_more (r ∷ rs) qs c h = go (inside r c) (within_more rs qs c) h
  where
    go : (b : Bool) → (within rs c ≡ true → within (rs ++ qs) c ≡ true) → b || within rs c ≡ true → b || within (rs ++ qs) c ≡ true
    go true f e = refl
    go false f e = f e

within_last : (rs : List Range) (a c : ℕ) → within (rs ++ only a ∷ []) c ≡ true → (within rs c ≡ true) ⊎ (c ≡ a)
within_last [] a c h = go (or_either (inside (only a) c) false h)
  where
    go : (inside (only a) c ≡ true) ⊎ (false ≡ true) → (false ≡ true) ⊎ (c ≡ a)
    go (inl e) = inr (eqb-true c a (only_equal c a ∙ e))
    go (inr e) = inl e
within_last (r ∷ rs) a c h = go (inside r c) (within_last rs a c) h
  where
    go : (b : Bool) → (within (rs ++ only a ∷ []) c ≡ true → (within rs c ≡ true) ⊎ (c ≡ a))
        → b || within (rs ++ only a ∷ []) c ≡ true → (b || within rs c ≡ true) ⊎ (c ≡ a)
    go true f e = inl refl
    go false f e = f e

-- the class of [81] without `-`, which the production adds as a text
abbrev without : List Range
without = "A" to "Z" ∷ "a" to "z" ∷ "0" to "9" ∷ sign "." ∷ sign "_" ∷ []

dash_encoding : (s t : List ℕ) → Reads (char (within without) ∣ text "-") s t → Reads (char is_encoding) s t
unfolding is_encoding
dash_encoding s t (inl (c, k, h, e)) = (c, k, within_more without (sign "-" ∷ []) c h, e)
dash_encoding s t (inr e) = (0x2D, scalar_ascii 0x2D (lit< tt), refl, e ∙ ap (λ (w : List ℕ). w ++ t) (sym (utf8_low 0x2D (lit< tt))))

encoding_dash : (s t : List ℕ) → Reads (char is_encoding) s t → Reads (char (within without) ∣ text "-") s t
unfolding is_encoding
encoding_dash s t (c, k, h, e) = go (within_last without 0x2D c h)
  where
    go : (within without c ≡ true) ⊎ (c ≡ 0x2D) → Reads (char (within without) ∣ text "-") s t
    go (inl i) = inl (c, k, i, e)
    go (inr i) = inr (e ∙ ap (λ (x : ℕ). utf8 x ++ t) i ∙ ap (λ (w : List ℕ). w ++ t) (utf8_low 0x2D (lit< tt)))

star_map : {R Q : List ℕ → List ℕ → Type 0} → ((s t : List ℕ) → R s t → Q s t) → {s t : List ℕ} → Star R s t → Star Q s t
star_map f done = done
star_map f (more {s = s} {m = m} x xs) = more (f s m x) (star_map f xs)

letter_encoding : (c : ℕ) → is_letter c ≡ true → is_encoding c ≡ true
unfolding is_letter is_encoding
letter_encoding c h = within_more ("A" to "Z" ∷ "a" to "z" ∷ []) ("0" to "9" ∷ sign "." ∷ sign "_" ∷ sign "-" ∷ []) c h

pub encoding_takes : {o : Rest} {b : Rule} → Off is_encoding b → TakesOn o EncName encoding_of b
unfolding encoding_of is_letter
encoding_takes {o} n =
    let k = led_takes is_letter is_encoding letter_encoding {o = o} n in
    record {
      sound = λ {s} {m} d e. let (i, x, y) = k.sound d e in (i, x, star_map encoding_dash y);
      complete = λ {s} {m} t d (i, x, y) z. k.complete t d (i, x, star_map dash_encoding y) z;
    }

-- [80] by what stands as the name
pub quotes_off : (n : Rule) → Off is_space (Double n ∣ Single n)
unfolding is_space
quotes_off n = off_either (off_then (off_lit _ _ (lit< tt) refl)) (off_then (off_lit _ _ (lit< tt) refl))

pub named_decides : {o : Rest} {n : Rule} (f : List ℕ → Option (List ℕ)) → Ascii n → TakesOn o n f (text "'") → TakesOn o n f (text "\"")
    → DecidesOn o (EncodingBy n) (setting_of (bytes "encoding") f)
unfolding is_space
named_decides {n = n} f l k i =
    setting_decides f (bytes "encoding") refl (off_lit _ _ (lit< tt) refl) (quotes_off n)
    (same_decides (swap (Single n) (Double n)) (swap (Double n) (Single n)) (quoted_decides l k i))

encoding_decides : {o : Rest} → DecidesOn o EncodingDecl (setting_of (bytes "encoding") encoding_of)
unfolding is_encoding
encoding_decides =
    named_decides encoding_of (ascii EncName refl) (encoding_takes (off_lit _ _ (lit< tt) refl))
    (encoding_takes (off_lit _ _ (lit< tt) refl))

yes_decides : {o : Rest} → DecidesOn o (text "yes" ∣ text "no") yes_or_no
unfolding yes_or_no expect
yes_decides =
    alt_decides (lit_decides (bytes "yes")) (lit_decides (bytes "no"))
    (record { apart = λ s t e. ap (expect (bytes "no")) (lit_sound (bytes "yes") s t e) })

standalone_decides : {o : Rest} → DecidesOn o SDDecl (setting_of (bytes "standalone") yes_or_no)
unfolding is_space
standalone_decides =
    setting_decides yes_or_no (bytes "standalone") refl (off_lit _ _ (lit< tt) refl) (quoted_off (text "yes" ∣ text "no"))
    (quoted_decides (refl, refl) (decides_takes yes_decides) (decides_takes yes_decides))

-- ---- the declaration

-- no setting stands at the end
end_none : (w : List ℕ) (f : List ℕ → Option (List ℕ)) → ((t : List ℕ) → expect w (bytes "?>" ++ t) ≡ none)
    → (s t : List ℕ) → Reads (opt S ⨾ text "?>") s t → setting_of w f s ≡ none
unfolding is_space
end_none w f n s t (m, x, e) =
    setting_none w f x ((off_lit {p = is_space} 0x3F (bytes ">") (lit< tt) refl).off m t e) (ap (expect w) e ∙ n t)

-- what follows the encoding
abbrev pub Ending : Rule
Ending = opt SDDecl ⨾ opt S ⨾ text "?>"

-- no encoding stands at `standalone`, or at the end
pub encoding_none : (f : List ℕ → Option (List ℕ)) (s t : List ℕ) → Reads Ending s t → setting_of (bytes "encoding") f s ≡ none
unfolding is_space expect
encoding_none f s t (m, inl e, y) = rw e (end_none (bytes "encoding") f (λ u. refl) m t y)
encoding_none f s t (m, inr (i, x, (j, e, z)), y) =
    setting_none (bytes "encoding") f (inr x) ((off_lit {p = is_space} 0x73 (bytes "tandalone") (lit< tt) refl).off i j e)
    (ap (expect (bytes "encoding")) e)

-- [23] by what stands as the encoding
pub declared_decides : {o : Rest} {e : Rule} {f : List ℕ → Option (List ℕ)} → Ascii e → TakesOn o e f Ending
    → DecidesOn o (DeclBy e) (declaration_by f)
unfolding is_space expect
declared_decides l k =
    lit_then (bytes "<?xml") refl
    (seq_decides (ascii VersionInfo refl) version_decides
    (takes_then l k
    (opt_then (skip_then (lit_decides (bytes "?>")) (off_lit _ _ (lit< tt) refl)) (ascii SDDecl refl) standalone_decides
    (end_none (bytes "standalone") yes_or_no (λ u. refl)))))

pub declaration_decides : {o : Rest} → DecidesOn o XMLDecl declaration_of
unfolding declaration_of
declaration_decides =
    declared_decides (ascii (opt EncodingDecl) refl) (takes_opt (decides_takes encoding_decides) (encoding_none encoding_of))
