-- Two colons side by side. In order: the test says what they are, both ways; a text that ends in them and stands where a name does, as
-- `self::`, is a part of that name; the walk over a name in search of them.
use mathlib.Core.Path.{◌≡◌, refl, sym, ap, ◌∙◌}
use mathlib.Core.Bool.{Bool, true, false, ◌&&◌, ◌||◌, false≢true}
use mathlib.Core.List.{List, [], ◌∷◌, ◌++◌}
use mathlib.Core.Logic.{◌⊎◌, inl, inr}
use Prim.Native.Nat.{ℕ, ◌+◌, ◌≤◌, ◌<◌}
use native.Mathlib.Omega.{arith}
use borrow.Author.Tests.{eqb-true, ltb-true}
use lib.Dec.{eqb, ltb}
use lib.ListN.{length, drop}
use Rattle.xml.specs.Notation.{bytes}
use Rattle.xml.specs.Productions.{is_name}
use Rattle.xml.specs.Character.{begins, starts}
use Rattle.xml.proofs.Bools.{and_left, and_right, or_either, or_right, true-false}
use Rattle.xml.proofs.Character.{begins_split}
use Rattle.xml.proofs.Run.{starts_low}
use Rattle.utf8.proofs.Place.{drop_step, drop_end}
use Rattle.paths.specs.Path.{TwoColons}
use Rattle.paths.specs.Reader.{two_colons}

-- ---- the test

pub test_colons : (n : List ℕ) → two_colons n ≡ true → TwoColons n
test_colons [] e = absurd (false≢true e)
test_colons (b ∷ s) e = go (or_either (begins (bytes "::") (b ∷ s)) (two_colons s) e) (test_colons s)
  where
    go : (begins (bytes "::") (b ∷ s) ≡ true) ⊎ (two_colons s ≡ true) → (two_colons s ≡ true → TwoColons s) → TwoColons (b ∷ s)
    go (inl h) later = record { before = []; after = drop 2 (b ∷ s); is = begins_split (bytes "::") (b ∷ s) h }
    go (inr h) later =
        let c = later h in
        record { before = b ∷ c.before; after = c.after; is = ap (λ (t : List ℕ). b ∷ t) c.is }

pub colons_test : {n : List ℕ} → TwoColons n → two_colons n ≡ true
colons_test {n} c = ap two_colons c.is ∙ go c.before c.after
  where
    go : (a t : List ℕ) → two_colons (a ++ bytes "::" ++ t) ≡ true
    go [] t = refl
    go (b ∷ a) t = or_right (begins (bytes "::") (b ∷ (a ++ bytes "::" ++ t))) _ (go a t)

pub apart_test : {n : List ℕ} → (TwoColons n → ⊥) → two_colons n ≡ false
apart_test {n} a = go (two_colons n) refl
  where
    go : (b : Bool) → two_colons n ≡ b → b ≡ false
    go true e = absurd (a (test_colons n e))
    go false e = refl

pub test_apart : {n : List ℕ} → two_colons n ≡ false → TwoColons n → ⊥
test_apart e c = true-false (colons_test c) e

-- ---- a text that ends in two colons

-- ASCII characters of names alone
abbrev pub name_text : List ℕ → Bool
name_text [] = true
name_text (x ∷ w) = (ltb x 0x80 && is_name x) && name_text w

-- such a text at the front of n and t, where no name goes on in t, stands in n
text_inside : (w n t : List ℕ) → name_text w ≡ true → starts is_name t ≡ false → begins w (n ++ t) ≡ true → (m : List ℕ) × (n ≡ w ++ m)
text_inside [] n t k f e = (n, refl)
text_inside (x ∷ w) [] t k f e =
    let y = and_left (ltb x 0x80 && is_name x) (name_text w) k in
    let z : starts is_name t ≡ is_name x =
    ap (starts is_name) (begins_split (x ∷ w) t e) ∙ starts_low is_name x _ (ltb-true x 0x80 (and_left (ltb x 0x80) (is_name x) y)) in
    absurd (true-false (z ∙ and_right (ltb x 0x80) (is_name x) y) f)
text_inside (x ∷ w) (y ∷ n) t k f e =
    let (m, q) = text_inside w n t (and_right (ltb x 0x80 && is_name x) (name_text w) k) f (and_right (eqb y x) _ e) in
    (m, cc (eqb-true y x (and_left (eqb y x) _ e), q))

-- so no name without two colons stands where such a text ends in them
pub no_axis : (a n t : List ℕ) → name_text (a ++ bytes "::") ≡ true → (TwoColons n → ⊥) → starts is_name t ≡ false
    → begins (a ++ bytes "::") (n ++ t) ≡ false
no_axis a n t k apart f = go (begins (a ++ bytes "::") (n ++ t)) refl
  where
    go : (b : Bool) → begins (a ++ bytes "::") (n ++ t) ≡ b → b ≡ false
    go false e = refl
    go true e =
        let (m, q) = text_inside (a ++ bytes "::") n t k f e in
        absurd (apart (record { before = a; after = m; is = q }))

-- ---- the walk over a name

-- two colons stand in n just if they do from the place i on
pub record Apart (n : List ℕ) (i : ℕ) : Type 0 where
  pub inside : i ≤ length n
  pub left : two_colons (drop i n) ≡ two_colons n

pub apart_start : (n : List ℕ) → Apart n 0
apart_start n = record { inside = omega arith; left = refl }

module _ {n : List ℕ} {i : ℕ} (v : Apart n i) where
  pub apart_end : length n ≤ i → false ≡ two_colons n
  apart_end l = sym (ap two_colons (drop_end n i l)) ∙ v.left

  module _ (l : i < length n) {x : Bool} (q : x ≡ begins (bytes "::") (drop i n)) where
    one_step : two_colons (drop i n) ≡ (x || two_colons (drop (i + 1) n))
    one_step =
        let s = drop_step n i l in
        ap two_colons s ∙ ap (λ (b : Bool). b || two_colons (drop (i + 1) n)) (sym (q ∙ ap (begins (bytes "::")) s))

    pub apart_found : x ≡ true → true ≡ two_colons n
    apart_found y = sym (one_step ∙ ap (λ (b : Bool). b || two_colons (drop (i + 1) n)) y) ∙ v.left

    pub apart_on : x ≡ false → Apart n (i + 1)
    apart_on y =
        record {
          inside = omega arith;
          left = sym (one_step ∙ ap (λ (b : Bool). b || two_colons (drop (i + 1) n)) y) ∙ v.left;
        }

pub ruleset apart = (apart_start, apart_end, apart_found, apart_on)
