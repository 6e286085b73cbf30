-- What `value_is` is made of. In order: a character at a place of the text; the same texts; what a literal character is made; the quotes.
use mathlib.Core.Path.{◌≡◌, refl, sym, ap, ◌∙◌}
use mathlib.Core.Bool.{Bool, true, false, cond, ◌&&◌, ◌||◌, false≢true}
use mathlib.Core.List.{List, [], ◌∷◌, ◌++◌}
use mathlib.Core.Logic.{◌⊎◌, inl, inr}
use mathlib.Core.Option.{Option as Maybe, none, some, none-ne-some, some-injective}
use Prim.Native.Nat.{ℕ, suc, ◌+◌, ◌-◌, ◌≤◌}
use native.Mathlib.Omega.{arith}
use borrow.Author.Tests.{eqb-true, eq-eqb, ne_eqb}
use lib.Dec.{eqb, lit<}
use lib.ListN.{length, drop, length-drop}
use Rattle.xml.specs.Utf8.{utf8, is_scalar}
use Rattle.xml.specs.Productions.{same}
use Rattle.xml.specs.Character.{begins, character}
use Rattle.xml.specs.Sign.{Sign as Origin, literal}
use Rattle.xml.proofs.Bools.{and_left, and_right}
use Rattle.xml.proofs.Same.{same_equal}
use Rattle.xml.proofs.Utf8.{scalar_ascii, utf8_long}
use Rattle.xml.proofs.Character.{begins_append, begins_split, character_is, character_some}
use Rattle.readers.specs.Read.{expect}
use Rattle.utf8.specs.Sequence.{point_at, sequence_at}
use Rattle.std.proofs.lemmas.Option.{some_pair_parts}
use Rattle.std.specs.Prelude.{Option, Some, None}
use Rattle.readers.specs.Answer.{Answers}
use Rattle.readers.proofs.Answers.{text_yes, text_no}
use Rattle.readers.proofs.Combine.{lit_sound, lit_complete}
use Rattle.references.specs.Sign.{where_of}
use Rattle.references.specs.declared.next.Where.TheVariants.{Double, Single}
use Rattle.attributes.specs.Normal.{line_by, lines_from, char_of, encoded}
use Rattle.attributes.specs.Held.{quotes_of}
use Rattle.normal.specs.Plain.{plain_of}

-- ---- a character at a place of the text

begins_not : (c : ℕ) (s : List ℕ) → is_scalar c ≡ true → (character s ≡ some c → ⊥) → begins (utf8 c) s ≡ false
begins_not c s k n = go (begins (utf8 c) s) refl
  where
    go : (b : Bool) → begins (utf8 c) s ≡ b → b ≡ false
    go true e = absurd (n (character_is s c _ k (begins_split (utf8 c) s e)))
    go false e = refl

point_is : (t : List ℕ) (k : ℕ) {r : Option (ℕ × ℕ)} {x e : ℕ} → r ≡ sequence_at t k → r ≡ Some (x, e)
    → (character (drop k t) ≡ some x) × (e ≡ k + length (utf8 x))
unfolding sequence_at
point_is t k {r} {x} {e} q z = go (character (drop k t)) (sym z ∙ q)
  where
    go : (o : Maybe ℕ) → Some (x, e) ≡ point_at k o → (o ≡ some x) × (e ≡ k + length (utf8 x))
    go none h = absurd (false≢true cc)
    go (some y) h = let (i, j) = some_pair_parts _ _ _ _ h in (ap some (sym i), j ∙ rw i)

bad_is : (t : List ℕ) (k : ℕ) {r : Option (ℕ × ℕ)} → r ≡ sequence_at t k → r ≡ None → character (drop k t) ≡ none
unfolding sequence_at
bad_is t k {r} q z = go (character (drop k t)) (sym z ∙ q)
  where
    go : (o : Maybe ℕ) → None ≡ point_at k o → o ≡ none
    go none h = refl
    go (some y) h = absurd (false≢true cc)

module _ (t : List ℕ) (k c : ℕ) {r : Option (ℕ × ℕ)} (q : r ≡ sequence_at t k) where
  pub put_same : {x e : ℕ} → r ≡ Some (x, e) → x ≡ c → Answers t k (Some e) (expect (utf8 c) (drop k t))
  put_same {x} {e} z i =
      let (a, b) = point_is t k q z in
      let h : true ≡ begins (utf8 c) (drop k t)
      = sym (ap (begins (utf8 c)) (character_some (drop k t) c (a ∙ ap some i)).1 ∙ begins_append (utf8 c) _) in
      rw (b, i) (text_yes t k (utf8 c) h refl (utf8_long c))

  pub put_other : is_scalar c ≡ true → {x e : ℕ} → r ≡ Some (x, e) → (x ≡ c → ⊥) → Answers t k None (expect (utf8 c) (drop k t))
  put_other s {x} z n =
      let (a, b) = point_is t k q z in
      text_no t k (utf8 c) (sym (begins_not c (drop k t) s (λ h. n (some-injective x c (sym a ∙ h))))) refl

  pub put_bad : is_scalar c ≡ true → r ≡ None → Answers t k None (expect (utf8 c) (drop k t))
  put_bad s z =
      text_no t k (utf8 c) (sym (begins_not c (drop k t) s (λ h. none-ne-some c (sym (bad_is t k q z) ∙ h)))) refl

pub ruleset putting = (put_same, put_other, put_bad)

-- ---- the same texts

same_prefix : (u w t : List ℕ) → same (u ++ w) (u ++ t) ≡ same w t
same_prefix [] w t = refl
same_prefix (x ∷ u) w t = rw (eq-eqb x x refl) (same_prefix u w t)

pub same_on : (u w s t : List ℕ) → expect u s ≡ some t → same (u ++ w) s ≡ same w t
same_on u w s t e = ap (same (u ++ w)) (lit_sound u s t e) ∙ same_prefix u w t

pub same_off : (u w s : List ℕ) → expect u s ≡ none → same (u ++ w) s ≡ false
same_off u w s e = go (same (u ++ w) s) refl
  where
    go : (b : Bool) → same (u ++ w) s ≡ b → b ≡ false
    go true h = absurd (none-ne-some w (sym e ∙ lit_complete u s w (sym (same_equal (u ++ w) s h))))
    go false h = refl

pub same_over : (k : ℕ) (t : List ℕ) → k ≤ length t → same [] (drop k t) ≡ eqb k (length t)
same_over k t l = go (drop k t) (length-drop k t)
  where
    go : (s : List ℕ) → length s ≡ length t - k → same [] s ≡ eqb k (length t)
    go [] e = sym (eq-eqb k (length t) (let z : 0 ≡ length t - k = e in omega arith))
    go (b ∷ s) e = sym (ne_eqb k (length t) (λ q. let z : suc (length s) ≡ length t - k = e in omega arith))

-- ---- what a literal character is made

pub joined_line : (after : Bool) (c : ℕ) (signs : List Origin) → after && eqb c 0xA ≡ true
    → lines_from after (literal c ∷ signs) ≡ lines_from false signs
unfolding lines_from
joined_line after c signs h = rw (and_left after _ h, eqb-true c 0xA (and_right after _ h)) refl

pub literal_line : (after : Bool) (c : ℕ) (signs : List Origin) → after && eqb c 0xA ≡ false
    → encoded (lines_from after (literal c ∷ signs)) ≡ utf8 (plain_of c) ++ encoded (lines_from (eqb c 0xD) signs)
unfolding lines_from encoded plain_of
literal_line after c signs = go after (eqb c 0xD) (eqb c 0xA) (lines_from (eqb c 0xD) signs)
  where
    go : (after cr lf : Bool) (l : List Origin) → after && lf ≡ false
        → encoded (line_by after cr lf c l) ≡ utf8 (char_of (literal (cond cr 0xA c))) ++ encoded l
    go after true lf l h = refl
    go true false true l h = absurd (false≢true (sym h))
    go true false false l h = refl
    go false false lf l h = refl

plain_blank : {c : ℕ} → (c ≡ 0x9) ⊎ ((c ≡ 0xA) ⊎ (c ≡ 0xD)) → 0x20 ≡ plain_of c
unfolding plain_of char_of
plain_blank (inl e) = rw e refl
plain_blank (inr (inl e)) = rw e refl
plain_blank (inr (inr e)) = rw e refl

module _ {c : ℕ} where
  pub plain_tab : c ≡ 0x9 → 0x20 ≡ plain_of c
  plain_tab e = plain_blank (inl e)

  pub plain_lf : c ≡ 0xA → 0x20 ≡ plain_of c
  plain_lf e = plain_blank (inr (inl e))

  pub plain_cr : c ≡ 0xD → 0x20 ≡ plain_of c
  plain_cr e = plain_blank (inr (inr e))

  pub plain_other : (c ≡ 0x9 → ⊥) → (c ≡ 0xA → ⊥) → (c ≡ 0xD → ⊥) → c ≡ plain_of c
  unfolding plain_of char_of
  plain_other p q r = rw (ne_eqb c 0xD r, ne_eqb c 0x9 p, ne_eqb c 0xA q)

pub ruleset plaining = (plain_tab, plain_lf, plain_cr, plain_other)

pub plain_scalar : (c : ℕ) → is_scalar c ≡ true → is_scalar (plain_of c) ≡ true
unfolding plain_of char_of
plain_scalar c k = go (eqb c 0xD)
  where
    go : (b : Bool) → is_scalar (char_of (literal (cond b 0xA c))) ≡ true
    go true = scalar_ascii 0x20 (lit< tt)
    go false = then (eqb c 0x9 || eqb c 0xA)
      where
        then : (b : Bool) → is_scalar (cond b 0x20 c) ≡ true
        then true = scalar_ascii 0x20 (lit< tt)
        then false = k

pub joins_yes : (c : ℕ) {after : Bool} → after ≡ true → eqb c 0xA ≡ after && eqb c 0xA
joins_yes c e = rw e

pub joins_no : (c : ℕ) {after : Bool} → after ≡ false → false ≡ after && eqb c 0xA
joins_no c e = rw e

pub ruleset joining = (joins_yes, joins_no)

-- ---- the quotes

module _ (q : ℕ) where
  pub quotes_double : q ≡ 0x22 → where_of Double ≡ quotes_of q
  quotes_double e = rw (eq-eqb q 0x22 e)

  pub quotes_single : (q ≡ 0x22 → ⊥) → where_of Single ≡ quotes_of q
  quotes_single n = rw (ne_eqb q 0x22 n)

pub ruleset quoting = (quotes_double, quotes_single)
