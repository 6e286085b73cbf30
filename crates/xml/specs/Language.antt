-- The ordinary meaning of XML's notation: a rule's language, a set of byte strings, put together by concatenation.
-- proofs/Language.antt shows that `Reads r s t` says just this of the front of s.
use Rattle.std.specs.Prelude.{◌≡◌, true, List, [], ◌++◌, ◌⊎◌, ℕ}
use Rattle.xml.specs.Utf8.{utf8, is_scalar}
use Rattle.xml.specs.Notation.{Rule, lit, char, ◌⨾◌, ◌∖◌, ◌∣◌, ◌∗, such}

-- the empty string, or one of L and then such again
pub data Repeats (L : List ℕ → Type 0) : List ℕ → Type 0 where
  empty : Repeats L []
  joined : {u v : List ℕ} → L u → Repeats L v → Repeats L (u ++ v)

abbrev pub Language : Rule → List ℕ → Type 0
Language (lit w) v = v ≡ w
Language (char p) v = (c : ℕ) × (is_scalar c ≡ true) × (p c ≡ true) × (v ≡ utf8 c)
Language (a ⨾ b) v = (x : List ℕ) × (y : List ℕ) × Language a x × Language b y × (v ≡ x ++ y)
Language (a ∖ b) v = Language a v × (Language b v → ⊥)
Language (a ∣ b) v = Language a v ⊎ Language b v
Language (a ∗) v = Repeats (Language a) v
Language (such a p) v = Language a v × (p v ≡ true)
