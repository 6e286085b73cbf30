-- XML's notation for productions (Recommendation, section 6) as data, and what a rule reads. In order: the notation; `Reads`; its
-- shorthands. The productions are in Productions.antt; Language.antt has the ordinary meaning of such rules, to which Reads is shown equal.
use Rattle.std.specs.Prelude.{◌≡◌, Bool, true, false, ◌||◌, List, [], ◌∷◌, ◌++◌, ◌⊎◌, ℕ, eqb}
use Prim.Native.Char.{code}
use Prim.Native.String.{String, [] as ε, ◌∷◌ as ◌⊳◌}
use Rattle.xml.specs.Utf8.{utf8, is_scalar}

-- the bytes of a text of ASCII characters, as "<!--"
abbrev pub bytes : String → List ℕ
bytes ε = []
bytes (c ⊳ s) = code c ∷ bytes s

infix 70 ◌∗
infixr 60 ◌⨾◌
infixl 58 ◌∖◌
infixr 55 ◌∣◌
pub data Rule : Type 0 where
  -- 'text'
  lit : List ℕ → Rule
  -- one character of a class
  char : (ℕ → Bool) → Rule
  -- A B, A - B, A | B
  ◌⨾◌ ◌∖◌ ◌∣◌ : Rule → Rule → Rule
  -- A*
  ◌∗ : Rule → Rule
  -- A, where what it derives passes a test: a well-formedness constraint
  such : Rule → (List ℕ → Bool) → Rule

-- any number of R, one after the other
pub data Star (R : List ℕ → List ℕ → Type 0) : List ℕ → List ℕ → Type 0 where
  done : {s : List ℕ} → Star R s s
  more : {s m t : List ℕ} → R s m → Star R m t → Star R s t

-- `Reads r s t`: at the front of s stands something that r derives, and t is what follows it
abbrev pub Reads : Rule → List ℕ → List ℕ → Type 0
Reads (lit w) s t = s ≡ w ++ t
Reads (char p) s t = (c : ℕ) × (is_scalar c ≡ true) × (p c ≡ true) × (s ≡ utf8 c ++ t)
Reads (a ⨾ b) s t = (m : List ℕ) × Reads a s m × Reads b m t
Reads (a ∖ b) s t = Reads a s t × (Reads b s t → ⊥)
Reads (a ∣ b) s t = Reads a s t ⊎ Reads b s t
Reads (a ∗) s t = Star (Reads a) s t
Reads (such a p) s t = (w : List ℕ) × (s ≡ w ++ t) × (p w ≡ true) × Reads a s t

-- 'text', A? and A+
abbrev pub text : String → Rule
text w = lit (bytes w)

abbrev pub opt : Rule → Rule
opt a = lit [] ∣ a

abbrev pub plus : Rule → Rule
plus a = a ⨾ a ∗

-- the character c is one of xs
abbrev pub among : List ℕ → ℕ → Bool
among [] c = false
among (x ∷ xs) c = eqb c x || among xs c
