-- What a production begins with tells its kind: one lemma for each. Then white space, which is read as text, up to where text stops;
-- and that neither text, nor a start tag, nor an instruction begins as a declaration does.
use mathlib.Core.Path.{◌≡◌, refl, sym, ap, ◌∙◌}
use mathlib.Core.Bool.{Bool, true, false, cond, ◌&&◌}
use mathlib.Core.List.{List, [], ◌∷◌, ◌++◌}
use mathlib.Core.Logic.{inl, inr}
use mathlib.Core.Option.{none, some, none-ne-some}
use Prim.Native.Nat.{ℕ, ◌<◌}
use lib.Dec.{lit<, eqb}
use lib.ListN.{drop}
use Rattle.xml.specs.Notation.{Reads, Star, done, more, char, bytes, among}
use Rattle.xml.specs.Utf8.{utf8, is_scalar}
use Rattle.xml.specs.Productions.{is_space, is_name_start, is_name_more, is_name, except, Name, S, PI}
use Rattle.xml.specs.Character.{begins, starts}
use Rattle.xml.proofs.Bools.{true-false}
use Rattle.xml.proofs.Character.{begins_split}
use Rattle.xml.proofs.Run.{starts_reads}
use Rattle.xml.proofs.Utf8.{utf8_some, utf8_low}
use Rattle.chars.specs.Name.{name_of}
use Rattle.chars.proofs.Meaning.{name_is}
use Rattle.readers.specs.Plain.{text_of}
use Rattle.readers.specs.Named.{target_of, instruction_of}
use Rattle.readers.specs.Meaning.{Chars, TextIs}
use Rattle.readers.proofs.Combine.{lit_complete}
use Rattle.readers.proofs.Follow.{off_char, space_name, space_none, space_low}
use Rattle.readers.proofs.Instruction.{instruction_decides}
use Rattle.readers.proofs.Left.{before_is}
use Rattle.readers.proofs.Plain.{begins_other, except_not, text_sound}
use Rattle.items.specs.Item.{Kind, instruction, comment, section, finish, start, reference, text}
use Rattle.items.specs.Item.{declares, first_of, text_or_nothing, kind_of}
use Rattle.demands.proofs.Parts.{Stops, space_plain}
use Rattle.demands.proofs.Told.{longer}

-- ---- none of several

abbrev Off : List (Bool × Kind) → Type 0
Off [] = Unit {0}
Off (x ∷ xs) = (x.0 ≡ false) × Off xs

choice_off : (b : Bool) (x y : Kind) → b ≡ false → cond b x y ≡ y
choice_off true x y e = absurd (true-false refl e)
choice_off false x y e = refl

first_off : (xs : List (Bool × Kind)) (k : Kind) → Off xs → first_of xs k ≡ k
first_off [] k h = refl
first_off (x ∷ xs) k (e, h) = choice_off x.0 x.1 (first_of xs k) e ∙ first_off xs k h

-- ---- kinds by a text

module _ (u : List ℕ) where
  pub comment_kind : kind_of false (bytes "<!--" ++ u) ≡ comment
  unfolding kind_of
  comment_kind = refl

  pub instruction_kind : kind_of false (bytes "<?" ++ u) ≡ instruction
  unfolding kind_of
  instruction_kind = refl

  pub section_kind : kind_of false (bytes "<![CDATA[" ++ u) ≡ section
  unfolding kind_of
  section_kind = refl

  pub finish_kind : kind_of false (bytes "</" ++ u) ≡ finish
  unfolding kind_of
  finish_kind = refl

  pub reference_kind : kind_of false (0x26 ∷ u) ≡ reference
  unfolding kind_of
  reference_kind = refl

-- ---- a start tag: a name follows `<`

name_begins : (x : ℕ) (w s t : List ℕ) → x < 0x80 → is_name_start x ≡ false → Reads Name s t → begins (x ∷ w) s ≡ false
name_begins x w s t l n (m, (c, k, h, e), rs) =
    ap (begins (x ∷ w)) e ∙ begins_other x c w m l k (λ q. true-false (ap is_name_start (sym q) ∙ h) n)

pub start_kind : (s t : List ℕ) → Reads Name s t → kind_of false (0x3C ∷ s) ≡ start
unfolding kind_of is_name_start
start_kind s t x =
    let a : (w : List ℕ) → begins (0x3F ∷ w) s ≡ false = λ w. name_begins 0x3F w s t (lit< tt) refl x in
    let b : (w : List ℕ) → begins (0x21 ∷ w) s ≡ false = λ w. name_begins 0x21 w s t (lit< tt) refl x in
    let c : (w : List ℕ) → begins (0x2F ∷ w) s ≡ false = λ w. name_begins 0x2F w s t (lit< tt) refl x in
    first_off (longer (0x3C ∷ s)) start (a [], (b (bytes "--"), (b (bytes "[CDATA["), (b (bytes "DOCTYPE"), (c [], tt)))))

pub start_undeclared : (s t : List ℕ) → Reads Name s t → declares (0x3C ∷ s) ≡ false
unfolding declares is_name_start
start_undeclared s t x = rw (name_begins 0x3F (bytes "xml") s t (lit< tt) refl x)

-- ---- text: a character that is neither `<` nor `&`

plain_begins : (x : ℕ) (w s t : List ℕ) → x < 0x80 → among (bytes "<&") x ≡ true → Reads (char (except "<&")) s t → begins (x ∷ w) s ≡ false
plain_begins x w s t l n (c, k, h, e) =
    ap (begins (x ∷ w)) e ∙ begins_other x c w t l k (λ q. true-false (ap (among (bytes "<&")) q ∙ n) (except_not "<&" c h))

some_text : (s : List ℕ) (a : ℕ) (w : List ℕ) → s ≡ a ∷ w → text_or_nothing s ≡ text
some_text s a w e = rw e refl

plain_some : (s t : List ℕ) → Reads (char (except "<&")) s t → text_or_nothing s ≡ text
plain_some s t (c, k, h, e) =
    let (a, w, q) = utf8_some c in
    some_text s a (w ++ t) (e ∙ ap (λ (l : List ℕ). l ++ t) q)

pub plain_kind : (s t : List ℕ) → Reads (char (except "<&")) s t → kind_of false s ≡ text
unfolding kind_of
plain_kind s t x =
    let a : (w : List ℕ) → begins (0x3C ∷ w) s ≡ false = λ w. plain_begins 0x3C w s t (lit< tt) refl x in
    let b : begins (bytes "&") s ≡ false = plain_begins 0x26 [] s t (lit< tt) refl x in
    first_off (longer s) (cond (begins (bytes "<") s) start (cond (begins (bytes "&") s) reference (text_or_nothing s)))
    (a (bytes "?"), (a (bytes "!--"), (a (bytes "![CDATA["), (a (bytes "!DOCTYPE"), (a (bytes "/"), tt)))))
    ∙ choice_off (begins (bytes "<") s) start _ (a [])
    ∙ choice_off (begins (bytes "&") s) reference _ b
    ∙ plain_some s t x

pub plain_undeclared : (s t : List ℕ) → Reads (char (except "<&")) s t → declares s ≡ false
unfolding declares
plain_undeclared s t x = rw (plain_begins 0x3C (bytes "?xml") s t (lit< tt) refl x)

-- ---- white space is text

pub space_first : (s t : List ℕ) → Reads (char is_space) s t → Reads (char (except "<&")) s t
space_first s t (c, k, h, e) = (c, k, space_plain c h, e)

space_passed : (c : ℕ) (m : List ℕ) → is_space c ≡ true → text_of (c ∷ m) ≡ text_of m
unfolding text_of
space_passed c m h =
    rw (space_none (λ c. eqb c 0x3C) refl c h, space_none (λ c. eqb c 0x26) refl c h, space_none (λ c. eqb c 0x5D) refl c h)

stopped : (t : List ℕ) → Stops t → text_of t ≡ some t
unfolding text_of
stopped t (inl e) = rw e refl
stopped t (inr (u, inl e)) = rw e refl
stopped t (inr (u, inr e)) = rw e refl

space_text : {s t : List ℕ} → Star (Reads (char is_space)) s t → Stops t → text_of s ≡ some t
space_text {t = t} done z = stopped t z
space_text (more {m = m} (c, k, h, e) rs) z =
    ap text_of (e ∙ ap (λ (l : List ℕ). l ++ m) (utf8_low c (space_low c h))) ∙ space_passed c m h ∙ space_text rs z

pub space_is_text : {s t : List ℕ} → Chars s → Reads S s t → Stops t → TextIs s t
space_is_text c (m, x, rs) z = text_sound c (space_text (more x rs) z)

-- ---- an instruction does not declare

xml_name : (u : List ℕ) → starts is_name u ≡ false → name_of (bytes "xml" ++ u) ≡ some u
unfolding is_name_start is_name_more is_name is_scalar utf8
xml_name u n =
    name_is (bytes "xml" ++ u) u
    (bytes "ml" ++ u, (0x78, refl, refl, refl), more (0x6D, refl, refl, refl) (more (0x6C, refl, refl, refl) done)) n

xml_target : (u : List ℕ) → starts is_space u ≡ true → instruction_of (bytes "<?" ++ (bytes "xml" ++ u)) ≡ none
unfolding instruction_of target_of
xml_target u y =
    let n : starts is_name u ≡ false = (off_char space_name).off u _ (starts_reads is_space u y) in
    rw (
      lit_complete (bytes "<?") (bytes "<?" ++ (bytes "xml" ++ u)) (bytes "xml" ++ u) refl,
      xml_name u n,
      before_is {s = bytes "xml" ++ u} (bytes "xml") u refl,
    )

pub instruction_undeclared : (s t : List ℕ) → Chars s → Reads PI s t → declares s ≡ false
unfolding declares
instruction_undeclared s t c x = go (begins (bytes "<?xml") s) (starts is_space (drop 5 s)) refl refl
  where
    go : (a b : Bool) → begins (bytes "<?xml") s ≡ a → starts is_space (drop 5 s) ≡ b → a && b ≡ false
    go false b p q = refl
    go true false p q = refl
    go true true p q =
        let z = begins_split (bytes "<?xml") s p in
        absurd (none-ne-some t (sym (ap instruction_of z ∙ xml_target (drop 5 s) q) ∙ instruction_decides.complete c x))
