-- What a declaration says of the encoding, by the rules alone. In order: [80] and [23] are rules of specs/Encoding.antt; these with another
-- rule in them; `UTF-8` is an EncName; EncName - Utf8Name, which an EncName is where it is not `UTF-8`; another encoding is named exactly
-- where [23] stands with such a name, and where it is not, [23] stands as a document may have it.
use mathlib.Core.Path.{◌≡◌, refl, sym, ap, ◌∙◌}
use mathlib.Core.Bool.{Bool, true, false}
use mathlib.Core.List.{List, [], ◌∷◌, ◌++◌}
use mathlib.Core.Logic.{◌↔◌, ◌⊎◌, inl, inr}
use Prim.Native.Nat.{ℕ, ◌<◌}
use lib.Dec.{lit<}
use Rattle.xml.specs.Notation.{Rule, lit, char, ◌∖◌, ◌∣◌, Reads, done, more, opt}
use Rattle.xml.specs.Productions.{EncName, EncodingDecl, XMLDecl}
use Rattle.xml.specs.Computes.{member, rests}
use Rattle.xml.specs.Language.{Language}
use Rattle.xml.specs.Encoding.{EncodingBy, DeclBy, Utf8Name, Utf8Decl, NamesOther}
use Rattle.xml.proofs.Bools.{true-false}
use Rattle.xml.proofs.Utf8.{utf8_low, scalar_ascii}
use Rattle.xml.proofs.Language.{reads_language, language_reads}
use Rattle.xml.proofs.Computes.{rests_sound, rests_complete}

-- ---- [80] and [23]

pub encoding_by : EncodingDecl ≡ EncodingBy EncName
encoding_by = refl

pub declaration_by_lem : XMLDecl ≡ DeclBy (opt (EncodingBy EncName))
declaration_by_lem = refl

-- ---- another rule for what stands as the encoding, and for its name

pub declared_map : (a b : Rule) → ((s t : List ℕ) → Reads a s t → Reads b s t) → (s t : List ℕ) → Reads (DeclBy a) s t
    → Reads (DeclBy b) s t
declared_map a b f s t (i, x, (j, y, (k, z, l))) = (i, x, (j, y, (k, f j k z, l)))

pub named_map : (a b : Rule) → ((s t : List ℕ) → Reads a s t → Reads b s t) → (s t : List ℕ) → Reads (EncodingBy a) s t
    → Reads (EncodingBy b) s t
named_map a b f s t (i, x, (j, y, (k, z, inl (l, o, (m, n, c))))) = (i, x, (j, y, (k, z, inl (l, o, (m, f l m n, c)))))
named_map a b f s t (i, x, (j, y, (k, z, inr (l, o, (m, n, c))))) = (i, x, (j, y, (k, z, inr (l, o, (m, f l m n, c)))))

-- ---- `UTF-8` is an EncName

-- a byte of ASCII that is of a class
class_byte : (p : ℕ → Bool) (c : ℕ) → c < 0x80 → p c ≡ true → {s t : List ℕ} → s ≡ c ∷ t → Reads (char p) s t
class_byte p c l h {s} {t} e = (c, scalar_ascii c l, h, e ∙ ap (λ (w : List ℕ). w ++ t) (sym (utf8_low c l)))

-- a letter in either case
class_letter : (p : ℕ → Bool) (a b : ℕ) → a < 0x80 → b < 0x80 → p a ≡ true → p b ≡ true → {s t : List ℕ}
    → Reads (lit (a ∷ []) ∣ lit (b ∷ [])) s t → Reads (char p) s t
class_letter p a b k l g h (inl e) = class_byte p a k g e
class_letter p a b k l g h (inr e) = class_byte p b l h e

pub utf8_encoding : (s t : List ℕ) → Reads Utf8Name s t → Reads EncName s t
utf8_encoding s t (i, u, (j, v, (k, f, e))) = (
  i,
  class_letter _ 0x55 0x75 (lit< tt) (lit< tt) refl refl u,
  more (inl (class_letter _ 0x54 0x74 (lit< tt) (lit< tt) refl refl v))
      (more (inl (class_letter _ 0x46 0x66 (lit< tt) (lit< tt) refl refl f))
      (more (inr e) (more (inl (class_byte _ 0x38 (lit< tt) refl refl)) done))),
)

-- so a declaration that says UTF-8 is one of [23]
pub utf8_declaration : (s t : List ℕ) → Reads Utf8Decl s t → Reads XMLDecl s t
utf8_declaration = declared_map (opt (EncodingBy Utf8Name)) (opt (EncodingBy EncName)) widen
  where
    widen : (s t : List ℕ) → Reads (opt (EncodingBy Utf8Name)) s t → Reads (opt (EncodingBy EncName)) s t
    widen s t (inl e) = inl e
    widen s t (inr x) = inr (named_map Utf8Name EncName utf8_encoding s t x)

-- ---- another encoding's name, by the notation: EncName - Utf8Name

abbrev pub OtherName : Rule
OtherName = EncName ∖ Utf8Name

-- an EncName is `UTF-8` or another
utf8_or_other : (s t : List ℕ) → Reads EncName s t → Reads Utf8Name s t ⊎ Reads OtherName s t
utf8_or_other s t x = go (member t (rests Utf8Name s)) refl
  where
    go : (b : Bool) → member t (rests Utf8Name s) ≡ b → Reads Utf8Name s t ⊎ Reads OtherName s t
    go true e = inl (rests_sound Utf8Name s t e)
    go false e = inr (x, λ y. true-false (rests_complete Utf8Name s t y) e)

encoded_or_other : (s t : List ℕ) → Reads EncodingDecl s t → Reads (EncodingBy Utf8Name) s t ⊎ Reads (EncodingBy OtherName) s t
encoded_or_other s t (i, x, (j, y, (k, z, inl (l, o, (m, n, c))))) = go (utf8_or_other l m n)
  where
    go : Reads Utf8Name l m ⊎ Reads OtherName l m → Reads (EncodingBy Utf8Name) s t ⊎ Reads (EncodingBy OtherName) s t
    go (inl u) = inl (i, x, (j, y, (k, z, inl (l, o, (m, u, c)))))
    go (inr u) = inr (i, x, (j, y, (k, z, inl (l, o, (m, u, c)))))
encoded_or_other s t (i, x, (j, y, (k, z, inr (l, o, (m, n, c))))) = go (utf8_or_other l m n)
  where
    go : Reads Utf8Name l m ⊎ Reads OtherName l m → Reads (EncodingBy Utf8Name) s t ⊎ Reads (EncodingBy OtherName) s t
    go (inl u) = inl (i, x, (j, y, (k, z, inr (l, o, (m, u, c)))))
    go (inr u) = inr (i, x, (j, y, (k, z, inr (l, o, (m, u, c)))))

-- ---- a name that is not `UTF-8`

pub other_rule : (s : List ℕ) → NamesOther s ↔ ((t : List ℕ) × Reads (DeclBy (EncodingBy OtherName)) s t)
other_rule s = (to, from)
  where
    to : NamesOther s → (t : List ℕ) × Reads (DeclBy (EncodingBy OtherName)) s t
    to (n, t, x, other) = (
      t,
      declared_map (EncodingBy (lit n)) (EncodingBy OtherName)
          (named_map (lit n) OtherName (λ u v e. rw e (language_reads OtherName n v (x.name, other)))) s t x.stands,
    )

    -- the name that stands in the quotes
    named : (u v : List ℕ) → Reads (EncodingBy OtherName) u v → (n : List ℕ) × Language OtherName n × Reads (EncodingBy (lit n)) u v
    named u v (i, x, (j, y, (k, z, inl (l, o, (m, h, c))))) =
        let (n, e, a) = reads_language OtherName l m h in (n, a, (i, x, (j, y, (k, z, inl (l, o, (m, e, c))))))
    named u v (i, x, (j, y, (k, z, inr (l, o, (m, h, c))))) =
        let (n, e, a) = reads_language OtherName l m h in (n, a, (i, x, (j, y, (k, z, inr (l, o, (m, e, c))))))

    from : (t : List ℕ) × Reads (DeclBy (EncodingBy OtherName)) s t → NamesOther s
    from (t, (i, x, (j, y, (k, z, l)))) =
        let (n, a, e) = named j k z in
        (n, t, record { name = a.0; stands = (i, x, (j, y, (k, e, l))) }, a.1)

-- a declaration of [23] that names no other encoding is one that a document may have
pub declared_utf8 : (s t : List ℕ) → Reads XMLDecl s t → (NamesOther s → ⊥) → Reads Utf8Decl s t
declared_utf8 s t (i, x, (j, y, (k, inl e, l))) n = (i, x, (j, y, (k, inl e, l)))
declared_utf8 s t (i, x, (j, y, (k, inr z, l))) n = go (encoded_or_other j k z)
  where
    go : Reads (EncodingBy Utf8Name) j k ⊎ Reads (EncodingBy OtherName) j k → Reads Utf8Decl s t
    go (inl u) = (i, x, (j, y, (k, inr u, l)))
    go (inr u) = absurd (n ((other_rule s).1 (t, (i, x, (j, y, (k, u, l))))))
