-- Another encoding, on any bytes. In order: `UTF-8` in any case; an EncName that is not `UTF-8`; `other_iff`, the reader tells exactly
-- where another encoding is named; and where it is, no declaration stands that a document may have.
use mathlib.Core.Path.{◌≡◌, refl, sym, ap, ◌∙◌}
use mathlib.Core.Bool.{Bool, true, false, cond, false≢true}
use mathlib.Core.List.{List, [], ◌∷◌, ◌++◌}
use mathlib.Core.Logic.{◌↔◌, inl, inr}
use mathlib.Core.Option.{Option, none, some, none-ne-some, some-injective}
use Prim.Native.Nat.{ℕ, ◌<◌}
use native.Mathlib.Omega.{arith}
use lib.Dec.{eqb, lit<}
use borrow.Author.Tests.{eqb-true}
use Rattle.xml.specs.Notation.{Rule, Reads, lit, text, bytes, opt, among, ◌⨾◌, ◌∣◌}
use Rattle.xml.specs.Productions.{is_space, EncName, XMLDecl}
use Rattle.xml.specs.Encoding.{EncodingBy, DeclBy, Utf8Name, Utf8Decl, NamesOther}
use Rattle.xml.proofs.Bools.{and_left, and_right, and_both, true-false}
use Rattle.xml.proofs.Language.{reads_suffix}
use Rattle.xml.proofs.Encoding.{OtherName, utf8_encoding, utf8_declaration, other_rule, declared_utf8}
use Rattle.readers.specs.Read.{given}
use Rattle.readers.specs.Named.{before, setting_of, is_encoding, encoding_of, is_utf8, other_of, declaration_by, other_encoding}
use Rattle.readers.specs.Meaning.{Rest, anything, DecidesOn}
use Rattle.readers.proofs.Combine.{then_some, lit_decides}
use Rattle.readers.proofs.Follow.{ascii, Off, off_lit, TakesOn, decides_takes, space_takes, eq_takes}
use Rattle.readers.proofs.Left.{before_is}
use Rattle.readers.proofs.Instruction.{either_byte, byte_either}
use Rattle.readers.proofs.Declaration.{Ending, quotes_off, encoding_takes, encoding_none, version_decides, named_decides}
use Rattle.readers.proofs.Declaration.{declared_decides}

-- ---- `UTF-8` in any case

reads_utf8 : (s t : List ℕ) → Reads Utf8Name s t → is_utf8 (before s t) ≡ true
reads_utf8 s t (i, x, (j, y, (k, z, w))) =
    let (a, p, f) = either_byte 0x55 0x75 s i x in
    let (b, q, g) = either_byte 0x54 0x74 i j y in
    let (c, r, h) = either_byte 0x46 0x66 j k z in
    let e : s ≡ (a ∷ b ∷ c ∷ 0x2D ∷ 0x38 ∷ []) ++ t
    = p ∙ ap (λ (l : List ℕ). a ∷ l) (q ∙ ap (λ (l : List ℕ). b ∷ l) (r ∙ ap (λ (l : List ℕ). c ∷ l) w)) in
    rw (before_is (a ∷ b ∷ c ∷ 0x2D ∷ 0x38 ∷ []) t e)
    (and_both (among (bytes "Uu") a) _ f (and_both (among (bytes "Tt") b) _ g (and_both (among (bytes "Ff") c) _ h refl)))

utf8_reads : (w t : List ℕ) → is_utf8 w ≡ true → Reads Utf8Name (w ++ t) t
utf8_reads [] t h = absurd (false≢true h)
utf8_reads (a ∷ []) t h = absurd (false≢true h)
utf8_reads (a ∷ b ∷ []) t h = absurd (false≢true h)
utf8_reads (a ∷ b ∷ c ∷ []) t h = absurd (false≢true h)
utf8_reads (a ∷ b ∷ c ∷ d ∷ []) t h = absurd (false≢true h)
utf8_reads (a ∷ b ∷ c ∷ d ∷ e ∷ []) t h =
    let g = and_right (among (bytes "Uu") a) _ h in
    let k = and_right (among (bytes "Tt") b) _ g in
    let l = and_right (among (bytes "Ff") c) _ k in
    let p = eqb-true d 0x2D (and_left (eqb d 0x2D) _ l) in
    let q = eqb-true e 0x38 (and_right (eqb d 0x2D) _ l) in (
      b ∷ c ∷ d ∷ e ∷ t,
      byte_either 0x55 0x75 a (b ∷ c ∷ d ∷ e ∷ t) (and_left (among (bytes "Uu") a) _ h),
      (
        c ∷ d ∷ e ∷ t,
        byte_either 0x54 0x74 b (c ∷ d ∷ e ∷ t) (and_left (among (bytes "Tt") b) _ g),
        (d ∷ e ∷ t, byte_either 0x46 0x66 c (d ∷ e ∷ t) (and_left (among (bytes "Ff") c) _ k), rw (p, q)),
      ),
    )
utf8_reads (a ∷ b ∷ c ∷ d ∷ e ∷ x ∷ w) t h = absurd (false≢true h)

-- ---- an EncName that is not `UTF-8`

other_takes : {o : Rest} {b : Rule} → Off is_encoding b → TakesOn o OtherName other_of b
unfolding other_of
other_takes {o} {b} n =
    record {
      sound = λ {s} {m} d e.
          let (i, p, q) = then_some (encoding_of s) (λ t. cond (is_utf8 (before s t)) none (some t)) m e in
          let (h, k) = kept i m (is_utf8 (before s i)) q in
          rw (← k) ((encoding_takes {o = o} n).sound d p, λ x. true-false (reads_utf8 s i x) h);
      complete = λ {s} {m} t d (x, y) z.
          let (w, e) = reads_suffix EncName s m x in
          rw ((encoding_takes {o = o} n).complete t d x z, before_is w m e, other w (is_utf8 w) refl (λ h. y (rw e (utf8_reads w m h))));
    }
  where
    kept : (i m : List ℕ) (x : Bool) → cond x none (some i) ≡ some m → (x ≡ false) × (i ≡ m)
    kept i m true e = absurd (none-ne-some m e)
    kept i m false e = (refl, some-injective _ _ e)

    other : (w : List ℕ) (x : Bool) → is_utf8 w ≡ x → (is_utf8 w ≡ true → ⊥) → is_utf8 w ≡ false
    other w true e y = absurd (y e)
    other w false e y = e

setting_decides : DecidesOn anything (EncodingBy OtherName) (setting_of (bytes "encoding") other_of)
unfolding is_encoding
setting_decides =
    named_decides other_of (ascii OtherName refl) (other_takes (off_lit _ _ (lit< tt) refl)) (other_takes (off_lit _ _ (lit< tt) refl))

pub other_decides : DecidesOn anything (DeclBy (EncodingBy OtherName)) (declaration_by (setting_of (bytes "encoding") other_of))
other_decides = declared_decides (ascii (EncodingBy OtherName) refl) (decides_takes setting_decides)

-- "exactly when the first item has the right shape of a declaration and names another encoding"
pub other_iff : (s : List ℕ) → other_encoding s ≡ true ↔ NamesOther s
unfolding other_encoding
other_iff s = (λ e. (other_rule s).1 (read (declaration_by (setting_of (bytes "encoding") other_of) s) refl e), tell)
  where
    read : (r : Option (List ℕ)) → declaration_by (setting_of (bytes "encoding") other_of) s ≡ r → given r ≡ true
        → (t : List ℕ) × Reads (DeclBy (EncodingBy OtherName)) s t
    read none q e = absurd (false≢true e)
    read (some t) q e = (t, other_decides.sound tt q)

    tell : NamesOther s → given (declaration_by (setting_of (bytes "encoding") other_of) s) ≡ true
    tell x = let (t, y) = (other_rule s).0 x in ap given (other_decides.complete tt y)

-- ---- a declaration that a document may have names no other encoding

-- where a rule reads, it ends at one place
once : {r : Rule} {f : List ℕ → Option (List ℕ)} → DecidesOn anything r f → (s t t' : List ℕ) → Reads r s t → Reads r s t' → t ≡ t'
once k s t t' x y = some-injective t t' (sym (k.complete tt x) ∙ k.complete tt y)

takes_once : {r b b' : Rule} {f : List ℕ → Option (List ℕ)} → TakesOn anything r f b → TakesOn anything r f b' → (s m m' t t' : List ℕ)
    → Reads r s m → Reads b m t → Reads r s m' → Reads b' m' t' → m ≡ m'
takes_once k l s m m' t t' x y x' y' = some-injective m m' (sym (k.complete t tt x y) ∙ l.complete t' tt x' y')

-- in one pair of quotes stands one name
name_once : (q : ℕ) → q < 0x80 → is_encoding q ≡ false → (c m n t m' n' t' : List ℕ) → Reads (lit (q ∷ [])) c m → Reads Utf8Name m n
    → Reads (lit (q ∷ [])) n t → Reads (lit (q ∷ [])) c m' → Reads OtherName m' n' → Reads (lit (q ∷ [])) n' t' → ⊥
name_once q l h c m n t m' n' t' o x p o' (x', other) p' =
    let e = once (lit_decides (q ∷ [])) c m m' o o' in
    let g : n ≡ n'
    = takes_once (encoding_takes {b = lit (q ∷ [])} (off_lit q [] l h)) (encoding_takes {b = lit (q ∷ [])} (off_lit q [] l h))
    m n n' t t' (utf8_encoding m n x) p (rw e x') p' in
    other (rw (← e, ← g) x)

quoted_apart : (c t t' : List ℕ) → Reads (text "\"" ⨾ Utf8Name ⨾ text "\"" ∣ text "'" ⨾ Utf8Name ⨾ text "'") c t
    → Reads (text "\"" ⨾ OtherName ⨾ text "\"" ∣ text "'" ⨾ OtherName ⨾ text "'") c t' → ⊥
unfolding is_encoding
quoted_apart c t t' (inl (m, o, (n, x, p))) (inl (m', o', (n', x', p'))) =
    name_once 0x22 (lit< tt) refl c m n t m' n' t' o x p o' x' p'
quoted_apart c t t' (inr (m, o, (n, x, p))) (inr (m', o', (n', x', p'))) =
    name_once 0x27 (lit< tt) refl c m n t m' n' t' o x p o' x' p'
quoted_apart c t t' (inl (m, o, x)) (inr (m', o', x')) = let z : ◌≡◌ {A = ℕ} 0x22 0x27 = cc in omega arith
quoted_apart c t t' (inr (m, o, x)) (inl (m', o', x')) = let z : ◌≡◌ {A = ℕ} 0x27 0x22 = cc in omega arith

encoding_apart : (s t t' : List ℕ) → Reads (EncodingBy Utf8Name) s t → Reads (EncodingBy OtherName) s t' → ⊥
unfolding is_space
encoding_apart s t t' (a, x, (b, y, (c, z, q))) (a', x', (b', y', (c', z', q'))) =
    let word : Off is_space (text "encoding") = off_lit _ _ (lit< tt) refl in
    let e = takes_once (space_takes word) (space_takes word) s a a' b b' x y x' y' in
    let f = once (lit_decides (bytes "encoding")) a b b' y (rw e y') in
    let g = takes_once (eq_takes (quotes_off Utf8Name)) (eq_takes (quotes_off OtherName)) b c c' t t' z q (rw f z') q' in
    quoted_apart c t t' q (rw g q')

pub utf8_names_none : (s t : List ℕ) → Reads Utf8Decl s t → NamesOther s → ⊥
utf8_names_none s t x y = let (t', z) = (other_rule s).0 y in declared t' x z
  where
    ended : (j k : List ℕ) → Reads (opt (EncodingBy Utf8Name)) j k → Reads Ending k t → (k' : List ℕ) → Reads (EncodingBy OtherName) j k'
        → ⊥
    ended j k (inl e) l k' z = none-ne-some k' (sym (encoding_none other_of j t (rw e l)) ∙ setting_decides.complete tt z)
    ended j k (inr u) l k' z = encoding_apart j k k' u z

    declared : (t' : List ℕ) → Reads Utf8Decl s t → Reads (DeclBy (EncodingBy OtherName)) s t' → ⊥
    declared t' (i, x, (j, y, (k, z, l))) (i', x', (j', y', (k', z', l'))) =
        let e = once (lit_decides (bytes "<?xml")) s i i' x x' in
        let f = once version_decides i j j' y (rw e y') in
        ended j k z l k' (rw f z')

-- so the declarations of [23] are parted: a document may have one, or it names another encoding
pub utf8_iff : (s t : List ℕ) → Reads Utf8Decl s t ↔ (Reads XMLDecl s t × (NamesOther s → ⊥))
utf8_iff s t = ((λ x. (utf8_declaration s t x, utf8_names_none s t x)), (λ (x, n). declared_utf8 s t x n))
