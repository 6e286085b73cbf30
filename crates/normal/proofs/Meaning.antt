-- What `value_is` answers is what specs/Meaning says in the grammar's words, and no other answer says it (`value_says`, `value_only`): of a
-- value of [10] with its characters, on any bytes.
use mathlib.Core.Path.{◌≡◌, refl, sym, ap, ◌∙◌}
use mathlib.Core.Bool.{Bool, true, false}
use mathlib.Core.List.{List}
use Prim.Native.Nat.{ℕ}
use Rattle.xml.specs.Productions.{same}
use Rattle.xml.specs.Sign.{Sign, Valued}
use Rattle.xml.proofs.Bools.{true-false}
use Rattle.xml.proofs.Same.{same_equal, same_refl, same_other}
use Rattle.attributes.specs.Normal.{normal}
use Rattle.attributes.specs.Held.{normal_at}
use Rattle.attributes.proofs.Held.{valued_normal}
use Rattle.normal.specs.Meaning.{ValueSays}

module _ (text : List ℕ) {signs : List Sign} {s t : List ℕ} (v : Valued signs s t) where
  pub value_says : ValueSays signs text (same (normal_at s) text)
  value_says = rw (valued_normal v) (go (same (normal signs) text) refl)
    where
      go : (b : Bool) → same (normal signs) text ≡ b → ValueSays signs text b
      go true e = same_equal (normal signs) text e
      go false e = λ q. true-false (ap (λ (l : List ℕ). same l text) q ∙ same_refl text) e

  pub value_only : (r : Bool) → ValueSays signs text r → r ≡ same (normal_at s) text
  value_only true q = sym (rw (valued_normal v, q) (same_refl text))
  value_only false n = sym (rw (valued_normal v) (same_other (normal signs) text n))
