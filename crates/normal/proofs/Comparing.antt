-- The loop that holds a value against a text. In order: what `next` answers, as what comes; the invariant: what is left of the value and of
-- the text are the same exactly where the whole value and the whole text are; a law for each way on and out.
use mathlib.Core.Path.{◌≡◌, refl, sym, ap, ◌∙◌}
use mathlib.Core.Bool.{Bool, true, false, ◌&&◌}
use mathlib.Core.List.{List, [], ◌∷◌, ◌++◌}
use Prim.Native.Nat.{ℕ, suc, ◌+◌, ◌-◌, ◌≤◌, ◌<◌}
use native.Mathlib.Omega.{arith}
use borrow.Author.Rules.{rules}
use borrow.Author.Tests.{ne_eqb}
use lib.Dec.{eqb}
use lib.ListN.{length, get_or, drop, length-drop}
use Rattle.xml.specs.Utf8.{utf8, is_scalar}
use Rattle.xml.specs.Productions.{same}
use Rattle.xml.specs.Sign.{Sign as Origin, literal, referred, Where, Comes}
use Rattle.utf8.proofs.Place.{drop_step, drop_end}
use Rattle.std.specs.Prelude.{Option, Some, None}
use Rattle.readers.specs.Read.{expect}
use Rattle.readers.specs.Sign.{signs_in}
use Rattle.readers.specs.Answer.{Answers}
use Rattle.readers.proofs.Answers.{ends_some, ends_inside, fault_none}
use Rattle.readers.proofs.Left.{shorter_length}
use Rattle.readers.proofs.Signs.{comes_shorter, comes_scalar, signs_step, signs_stop, nothing_comes}
use Rattle.references.specs.Sign.{sign_at}
use Rattle.references.specs.Meaning.{NextSays}
use Rattle.references.specs.declared.next.Sign.{Sign}
use Rattle.references.specs.declared.next.Sign.TheVariants.{Literal, Referred, Nothing}
use Rattle.references.proofs.Meaning.{next_says}
use Rattle.attributes.specs.Normal.{lines_from, lines, char_of, encoded, normal}
use Rattle.attributes.specs.Held.{quotes_of, normal_at}
use Rattle.normal.specs.Plain.{plain_of}
use Rattle.normal.proofs.Compare.{plain_scalar, same_on, same_off, same_over, joined_line, literal_line}

-- ---- what comes next

-- the answer at i, which is a character x that ends at e
record Found (w : Where) (d : List ℕ) (i : ℕ) (x : Origin) (e : ℕ) : Type 0 where
  comes : Comes w x (drop i d) (drop e d)
  ahead : i < e
  inside : e ≤ length d

found : {w : Where} (d : List ℕ) (i : ℕ) {x : Origin} {e : ℕ} → Comes w x (drop i d) (drop e d) → e ≤ length d → Found w d i x e
found {w} d i {e = e} c l =
    record {
      comes = c;
      ahead = let h = shorter_length (comes_shorter w c) in omega (arith, length-drop i d, length-drop e d);
      inside = l;
    }

module _ (w : Where) (d : List ℕ) (i : ℕ) {r : Sign} (q : r ≡ sign_at w d i) where
  says : (x : Sign) → r ≡ x → NextSays w d i x
  says x z = rw (sym z ∙ q) (next_says d i w)

  found_literal : {c e : ℕ} → r ≡ Literal c e → Found w d i (literal c) e
  found_literal {c} {e} z = let (k, l, h) = says (Literal c e) z in found d i k h

  found_referred : {c e : ℕ} → r ≡ Referred c e → Found w d i (referred c) e
  found_referred {c} {e} z = let (k, l, h) = says (Referred c e) z in found d i k h

  pub literal_less : {c e : ℕ} → r ≡ Literal c e → length d - e < length d - i
  literal_less z = let f = found_literal z in omega (arith, f.ahead, f.inside)

  pub referred_less : {c e : ℕ} → r ≡ Referred c e → length d - e < length d - i
  referred_less z = let f = found_referred z in omega (arith, f.ahead, f.inside)

  pub literal_scalar : {c e x : ℕ} → r ≡ Literal c e → x ≡ plain_of c → is_scalar x ≡ true
  literal_scalar {c} z p = rw p (plain_scalar c (comes_scalar w (found_literal z).comes))

  pub referred_scalar : {c e : ℕ} → r ≡ Referred c e → is_scalar c ≡ true
  referred_scalar z = comes_scalar w (found_referred z).comes

-- ---- the invariant

-- what is left of the value, made normal, where a literal CR stands before it or not
abbrev left_of : Where → Bool → List ℕ → List ℕ
left_of w after s = encoded (lines_from after (signs_in w 0 s))

pub record Comparing (w : Where) (d t : List ℕ) (at i k : ℕ) (after : Bool) : Type 0 where
  pub fits : k ≤ length t
  pub agrees : same (left_of w after (drop i d)) (drop k t) ≡ same (normal_at (drop at d)) t

pub compare_start : {w : Where} {d t : List ℕ} {at : ℕ} → at < length d → w ≡ quotes_of (get_or d at 0)
    → Comparing w d t at (at + 1) 0 false
unfolding normal_at normal lines
compare_start {d = d} {t = t} {at = at} l e = record { fits = omega arith; agrees = rw (drop_step d at l, e) refl }

pub compare_past : (d t : List ℕ) (at : ℕ) → length d ≤ at → eqb (length t) 0 ≡ same (normal_at (drop at d)) t
unfolding normal_at
compare_past d t at h = rw (drop_end d at h) (go t)
  where
    go : (t : List ℕ) → eqb (length t) 0 ≡ same [] t
    go [] = refl
    go (b ∷ t) = ne_eqb (length (b ∷ t)) 0 (λ e. let z : suc (length t) ≡ 0 = e in omega arith)

module _ {w : Where} {d t : List ℕ} {at i k : ℕ} {after : Bool} (v : Comparing w d t at i k after) {r : Sign} (s : r ≡ sign_at w d i) where
  pub compare_nothing : r ≡ Nothing → eqb k (length t) ≡ same (normal_at (drop at d)) t
  unfolding lines_from encoded
  compare_nothing z =
      sym (same_over k t v.fits)
      ∙ sym (ap (λ (l : List Origin). same (encoded (lines_from after l)) (drop k t))
      (signs_stop w (drop i d) (nothing_comes w (says w d i s Nothing z))))
      ∙ v.agrees

  step : {x : Origin} {e : ℕ} → Found w d i x e → signs_in w 0 (drop i d) ≡ x ∷ signs_in w 0 (drop e d)
  step f = signs_step w (drop i d) f.comes

  -- the character x of the value and what is left after it, against the text from k on
  module _ (x e : ℕ) (next : Bool) (is : left_of w after (drop i d) ≡ utf8 x ++ left_of w next (drop e d)) {a : Option ℕ}
      (y : Answers t k a (expect (utf8 x) (drop k t))) where
    goes_on : {m : ℕ} → a ≡ Some m → Comparing w d t at e m next
    goes_on {m} h =
        record {
          fits = ends_inside y h;
          agrees =
              sym (same_on (utf8 x) (left_of w next (drop e d)) (drop k t) (drop m t) (ends_some y h))
              ∙ sym (ap (λ (b : List ℕ). same b (drop k t)) is)
              ∙ v.agrees;
        }

    differs : a ≡ None → false ≡ same (normal_at (drop at d)) t
    differs h =
        sym (same_off (utf8 x) (left_of w next (drop e d)) (drop k t) (fault_none y h))
        ∙ sym (ap (λ (b : List ℕ). same b (drop k t)) is)
        ∙ v.agrees

  module _ {c e : ℕ} (z : r ≡ Literal c e) {j : Bool} (p : j ≡ after && eqb c 0xA) where
    pub compare_joined : j ≡ true → Comparing w d t at e k false
    compare_joined u =
        record {
          fits = v.fits;
          agrees =
              sym (ap (λ (m : List Origin). same (encoded m) (drop k t))
              (ap (lines_from after) (step (found_literal w d i s z)) ∙ joined_line after c (signs_in w 0 (drop e d)) (sym p ∙ u)))
              ∙ v.agrees;
        }

    module _ (u : j ≡ false) {x : ℕ} (o : x ≡ plain_of c) {a : Option ℕ} (y : Answers t k a (expect (utf8 x) (drop k t))) where
      left : left_of w after (drop i d) ≡ utf8 x ++ left_of w (eqb c 0xD) (drop e d)
      left =
          ap (λ (m : List Origin). encoded (lines_from after m)) (step (found_literal w d i s z))
          ∙ literal_line after c (signs_in w 0 (drop e d)) (sym p ∙ u)
          ∙ ap (λ (b : ℕ). utf8 b ++ left_of w (eqb c 0xD) (drop e d)) (sym o)

      pub compare_literal : {m : ℕ} → a ≡ Some m → Comparing w d t at e m (eqb c 0xD)
      compare_literal h = goes_on x e (eqb c 0xD) left y h

      pub compare_other : a ≡ None → false ≡ same (normal_at (drop at d)) t
      compare_other h = differs x e (eqb c 0xD) left y h

  module _ {c e : ℕ} (z : r ≡ Referred c e) {a : Option ℕ} (y : Answers t k a (expect (utf8 c) (drop k t))) where
    said : left_of w after (drop i d) ≡ utf8 c ++ left_of w false (drop e d)
    unfolding lines_from encoded char_of
    said = ap (λ (m : List Origin). encoded (lines_from after m)) (step (found_referred w d i s z))

    pub compare_referred : {m : ℕ} → a ≡ Some m → Comparing w d t at e m false
    compare_referred h = goes_on c e false said y h

    pub compare_unlike : a ≡ None → false ≡ same (normal_at (drop at d)) t
    compare_unlike h = differs c e false said y h

pub ruleset comparing = (
  literal_less,
  referred_less,
  literal_scalar,
  referred_scalar,
  compare_start,
  compare_past,
  compare_nothing,
  compare_joined,
  compare_literal,
  compare_other,
  compare_referred,
  compare_unlike,
  rules,
)
