-- The next character at a place: whether references are read there, `]]>`, and which characters stand for themselves; one that does; and
-- the next, by `&` or not.
use mathlib.Core.Path.{◌≡◌, refl, sym, ap, ◌∙◌}
use mathlib.Core.Bool.{Bool, true, false, not, ◌&&◌, ◌||◌, or-true, or-false, false≢true}
use mathlib.Core.List.{List}
use mathlib.Core.Option.{Option as Maybe, none, some}
use Prim.Native.Nat.{ℕ, ◌+◌}
use native.Mathlib.Omega.{arith}
use borrow.Author.Rules.{rules}
use borrow.Author.Tests.{eq-eqb, ne_eqb}
use lib.Dec.{eqb}
use lib.ListN.{length, drop, length-drop, length-append}
use Rattle.xml.specs.Notation.{bytes}
use Rattle.xml.specs.Utf8.{utf8}
use Rattle.xml.specs.Productions.{is_char, except}
use Rattle.xml.specs.Character.{begins, character}
use Rattle.xml.specs.Sign.{Where as Stands, refers_in, plain_in}
use Rattle.xml.proofs.Character.{character_some}
use Rattle.utf8.specs.Place.{ends_at}
use Rattle.utf8.specs.Sequence.{point_at, sequence_at}
use Rattle.std.proofs.lemmas.Option.{some_pair_parts}
use Rattle.std.specs.Prelude.{Option, Some, None}
use Rattle.readers.specs.Plain.{is_mark}
use Rattle.readers.specs.Value.{Said, reference_of}
use Rattle.readers.specs.Sign.{closed, by_reference, by_itself, next_of}
use Rattle.references.specs.Say.{saying_at}
use Rattle.references.specs.Sign.{where_of, sign_by, sign_at, itself_at}
use Rattle.references.specs.declared.next.Where.{Where}
use Rattle.references.specs.declared.next.Where.TheVariants.{Text, Section, Double, Single}
use Rattle.references.specs.declared.next.Sign.{Sign}
use Rattle.references.specs.declared.next.Sign.TheVariants.{Literal, Referred, Nothing}

-- ---- by where characters stand

-- `&` begins a reference but in a section
module _ {w : Where} (s : List ℕ) where
  pub amp_text : {b : Bool} → w ≡ Text → b ≡ begins (bytes "&") s → b ≡ refers_in (where_of w) && begins (bytes "&") s
  amp_text e h = rw e h

  pub amp_section : w ≡ Section → false ≡ refers_in (where_of w) && begins (bytes "&") s
  amp_section e = rw e refl

  pub amp_double : {b : Bool} → w ≡ Double → b ≡ begins (bytes "&") s → b ≡ refers_in (where_of w) && begins (bytes "&") s
  amp_double e h = rw e h

  pub amp_single : {b : Bool} → w ≡ Single → b ≡ begins (bytes "&") s → b ≡ refers_in (where_of w) && begins (bytes "&") s
  amp_single e h = rw e h

-- `]]>` counts in text and in a section
module _ {w : Where} (s : List ℕ) where
  pub closes_text : {b : Bool} → w ≡ Text → b ≡ begins (bytes "]]>") s → b ≡ closed (where_of w) s
  closes_text e h = rw e h

  pub closes_section : {b : Bool} → w ≡ Section → b ≡ begins (bytes "]]>") s → b ≡ closed (where_of w) s
  closes_section e h = rw e h

  pub closes_double : w ≡ Double → false ≡ closed (where_of w) s
  closes_double e = rw e refl

  pub closes_single : w ≡ Single → false ≡ closed (where_of w) s
  closes_single e = rw e refl

-- ---- characters that stand for themselves

and_not : (x : Bool) → false ≡ x && false
and_not true = refl
and_not false = refl

module _ (c q : ℕ) where
  pub other_less : c ≡ 0x3C → false ≡ is_char c && not (is_mark q c)
  unfolding is_mark
  other_less e = rw (eq-eqb c 0x3C e) (and_not (is_char c))

  pub other_amp : c ≡ 0x26 → false ≡ is_char c && not (is_mark q c)
  unfolding is_mark
  other_amp e = rw (eq-eqb c 0x26 e, or-true (eqb c 0x3C)) (and_not (is_char c))

  pub other_quote : c ≡ q → false ≡ is_char c && not (is_mark q c)
  unfolding is_mark
  other_quote e = rw (eq-eqb c q e, or-true (eqb c 0x26), or-true (eqb c 0x3C)) (and_not (is_char c))

  and_yes : (x : Bool) → x ≡ x && true
  and_yes true = refl
  and_yes false = refl

  pub other_char : {b : Bool} → (c ≡ 0x3C → ⊥) → (c ≡ 0x26 → ⊥) → (c ≡ q → ⊥) → b ≡ is_char c → b ≡ is_char c && not (is_mark q c)
  unfolding is_mark
  other_char x y z e = rw (ne_eqb c 0x3C x, ne_eqb c 0x26 y, ne_eqb c q z) (e ∙ and_yes (is_char c))

-- the marks of [10], and those of [14], which has no quotes
three_marks : (a b c : Bool) → a || (b || (c || false)) ≡ a || (b || c)
three_marks a b c = rw (or-false c)

two_marks : (a b : Bool) → a || (b || false) ≡ a || (b || a)
two_marks true b = refl
two_marks false true = refl
two_marks false false = refl

module _ {w : Where} (c : ℕ) where
  pub plain_text : {b : Bool} → w ≡ Text → b ≡ is_char c && not (is_mark 0x3C c) → b ≡ plain_in (where_of w) c
  unfolding is_mark except
  plain_text e h = rw e (h ∙ ap (λ (x : Bool). is_char c && not x) (sym (two_marks (eqb c 0x3C) (eqb c 0x26))))

  pub plain_section : {b : Bool} → w ≡ Section → b ≡ is_char c → b ≡ plain_in (where_of w) c
  plain_section e h = rw e h

  pub plain_double : {b : Bool} → w ≡ Double → b ≡ is_char c && not (is_mark 0x22 c) → b ≡ plain_in (where_of w) c
  unfolding is_mark except
  plain_double e h = rw e (h ∙ ap (λ (x : Bool). is_char c && not x) (sym (three_marks (eqb c 0x3C) (eqb c 0x26) (eqb c 0x22))))

  pub plain_single : {b : Bool} → w ≡ Single → b ≡ is_char c && not (is_mark 0x27 c) → b ≡ plain_in (where_of w) c
  unfolding is_mark except
  plain_single e h = rw e (h ∙ ap (λ (x : Bool). is_char c && not x) (sym (three_marks (eqb c 0x3C) (eqb c 0x26) (eqb c 0x27))))

pub ruleset placing = (
  amp_text,
  amp_section,
  amp_double,
  amp_single,
  closes_text,
  closes_section,
  closes_double,
  closes_single,
  other_less,
  other_amp,
  other_quote,
  other_char,
  plain_text,
  plain_section,
  plain_double,
  plain_single,
  rules,
)

-- ---- one that stands for itself

module _ (w : Stands) (d : List ℕ) (at : ℕ) {b : Bool} (e : b ≡ closed w (drop at d)) where
  pub itself_closed : b ≡ true → Nothing ≡ itself_at w d at
  unfolding itself_at
  itself_closed t = go (character (drop at d))
    where
      go : (o : Maybe ℕ) → Nothing ≡ sign_by d at (by_itself w (drop at d) o)
      go none = refl
      go (some c) = rw (sym e ∙ t, sym (and_not (plain_in w c))) refl

  module _ (t : b ≡ false) {r : Option (ℕ × ℕ)} (q : r ≡ sequence_at d at) where
    pub itself_bad : r ≡ None → Nothing ≡ itself_at w d at
    unfolding itself_at sequence_at
    itself_bad z = go (character (drop at d)) (sym z ∙ q)
      where
        go : (o : Maybe ℕ) → None ≡ point_at at o → Nothing ≡ sign_by d at (by_itself w (drop at d) o)
        go none x = refl
        go (some y) x = absurd (false≢true cc)

    module _ {c i : ℕ} (z : r ≡ Some (c, i)) {p : Bool} (h : p ≡ plain_in w c) where
      pub itself_plain : p ≡ true → Literal c i ≡ itself_at w d at
      unfolding itself_at sequence_at ends_at
      itself_plain y = go (character (drop at d)) refl (sym z ∙ q)
        where
          width : (x : ℕ) → character (drop at d) ≡ some x → at + length (utf8 x) ≡ ends_at d at (drop (length (utf8 x)) (drop at d))
          width x f =
              let k = ap length (character_some (drop at d) x f).1 ∙ length-append (utf8 x) (drop (length (utf8 x)) (drop at d)) in
              omega (arith, length-drop (length (utf8 x)) (drop at d))

          go : (o : Maybe ℕ) → character (drop at d) ≡ o → Some (c, i) ≡ point_at at o
              → Literal c i ≡ sign_by d at (by_itself w (drop at d) o)
          go none f x = absurd (false≢true cc)
          go (some v) f x =
              let (j, k) = some_pair_parts _ _ _ _ x in
              rw (← j, sym h ∙ y, sym e ∙ t) (ap (Literal c) (k ∙ width v f ∙ rw j refl))

      pub itself_other : p ≡ false → Nothing ≡ itself_at w d at
      unfolding itself_at sequence_at
      itself_other y = go (character (drop at d)) (sym z ∙ q)
        where
          go : (o : Maybe ℕ) → Some (c, i) ≡ point_at at o → Nothing ≡ sign_by d at (by_itself w (drop at d) o)
          go none x = absurd (false≢true cc)
          go (some v) x = let (j, k) = some_pair_parts _ _ _ _ x in rw (← j, sym h ∙ y) refl

pub ruleset standing = (itself_closed, itself_bad, itself_plain, itself_other)

-- ---- the next

module _ (w : Stands) (d : List ℕ) (at : ℕ) {b : Bool} (e : b ≡ refers_in w && begins (bytes "&") (drop at d)) where
  pub next_other : {x : Sign} → b ≡ false → x ≡ itself_at w d at → x ≡ sign_at w d at
  unfolding sign_at next_of itself_at
  next_other t h = rw (sym e ∙ t) h

  module _ (t : b ≡ true) {s : Option (ℕ × ℕ)} (q : s ≡ saying_at d at (reference_of (drop at d))) where
    by_amp : sign_by d at (by_reference (reference_of (drop at d))) ≡ sign_at w d at
    unfolding sign_at next_of
    by_amp = rw (sym e ∙ t) refl

    pub next_referred : {c i : ℕ} → s ≡ Some (c, i) → Referred c i ≡ sign_at w d at
    next_referred {c} {i} z = go (reference_of (drop at d)) (sym z ∙ q) ∙ by_amp
      where
        go : (o : Maybe Said) → Some (c, i) ≡ saying_at d at o → Referred c i ≡ sign_by d at (by_reference o)
        go none x = absurd (false≢true cc)
        go (some v) x = let (j, k) = some_pair_parts _ _ _ _ x in cc

    pub next_silent : s ≡ None → Nothing ≡ sign_at w d at
    next_silent z = go (reference_of (drop at d)) (sym z ∙ q) ∙ by_amp
      where
        go : (o : Maybe Said) → None ≡ saying_at d at o → Nothing ≡ sign_by d at (by_reference o)
        go none x = refl
        go (some v) x = absurd (false≢true cc)

pub ruleset coming = (next_other, next_referred, next_silent)
