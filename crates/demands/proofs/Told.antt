-- The kind of an item after the first: it is no declaration, and text does not stand where text stops. A first item that does not declare
-- is told as any other.
use mathlib.Core.Path.{◌≡◌, refl, sym, ap, ◌∙◌}
use mathlib.Core.Bool.{Bool, true, false, cond}
use mathlib.Core.List.{List, [], ◌∷◌}
use mathlib.Core.Logic.{inl, inr}
use Prim.Native.Nat.{ℕ}
use Rattle.xml.specs.Notation.{bytes}
use Rattle.xml.specs.Character.{begins}
use Rattle.xml.proofs.Bools.{true-false}
use Rattle.items.specs.Item.{Kind, declaration, instruction, comment, section, doctype, finish, start, reference, text, nothing}
use Rattle.items.specs.Item.{declares, first_of, text_or_nothing, kind_of}
use Rattle.demands.proofs.Parts.{Stops}

-- ---- one of several kinds

-- what holds of none of them does not hold of the first
abbrev None : (Kind → Bool) → List (Bool × Kind) → Type 0
None f [] = Unit {0}
None f (x ∷ xs) = (f x.1 ≡ false) × None f xs

choice_none : (f : Kind → Bool) (b : Bool) (x y : Kind) → f x ≡ false → f y ≡ false → f (cond b x y) ≡ false
choice_none f true x y h k = h
choice_none f false x y h k = k

first_none : (f : Kind → Bool) (xs : List (Bool × Kind)) (k : Kind) → None f xs → f k ≡ false → f (first_of xs k) ≡ false
first_none f [] k n h = h
first_none f (x ∷ xs) k (m, n) h = choice_none f x.0 x.1 (first_of xs k) m (first_none f xs k n h)

-- the kinds that more bytes than `<` tell
abbrev pub longer : List ℕ → List (Bool × Kind)
longer s =
    (begins (bytes "<?") s, instruction)
    ∷ (begins (bytes "<!--") s, comment)
    ∷ (begins (bytes "<![CDATA[") s, section)
    ∷ (begins (bytes "<!DOCTYPE") s, doctype)
    ∷ (begins (bytes "</") s, finish)
    ∷ []

-- ---- no declaration

abbrev declares_kind : Kind → Bool
declares_kind declaration = true
declares_kind instruction = false
declares_kind comment = false
declares_kind section = false
declares_kind doctype = false
declares_kind finish = false
declares_kind start = false
declares_kind reference = false
declares_kind text = false
declares_kind nothing = false

left_declares : (s : List ℕ) → declares_kind (text_or_nothing s) ≡ false
left_declares [] = refl
left_declares (b ∷ s) = refl

not_declared : (s : List ℕ) → declares_kind (kind_of false s) ≡ false
unfolding kind_of
not_declared s =
    first_none declares_kind (longer s) _ (refl, (refl, (refl, (refl, (refl, tt)))))
    (choice_none declares_kind (begins (bytes "<") s) start _ refl
    (choice_none declares_kind (begins (bytes "&") s) reference (text_or_nothing s) refl (left_declares s)))

pub later_kind : (s : List ℕ) → kind_of false s ≡ declaration → ⊥
later_kind s e = true-false (ap declares_kind e) (not_declared s)

-- a first item that does not declare
pub first_kind : (s : List ℕ) → declares s ≡ false → kind_of true s ≡ kind_of false s
unfolding kind_of
first_kind s e = rw e

pub declared_kind : (s : List ℕ) → declares s ≡ true → kind_of true s ≡ declaration
unfolding kind_of
declared_kind s e = rw e

-- ---- no text where text stops

abbrev is_text : Kind → Bool
is_text declaration = false
is_text instruction = false
is_text comment = false
is_text section = false
is_text doctype = false
is_text finish = false
is_text start = false
is_text reference = false
is_text text = true
is_text nothing = false

less_kind : (u : List ℕ) → is_text (kind_of false (0x3C ∷ u)) ≡ false
unfolding kind_of
less_kind u = first_none is_text (longer (0x3C ∷ u)) start (refl, (refl, (refl, (refl, (refl, tt))))) refl

and_kind : (u : List ℕ) → is_text (kind_of false (0x26 ∷ u)) ≡ false
unfolding kind_of
and_kind u = refl

pub stops_kind : (s : List ℕ) → Stops s → kind_of false s ≡ text → ⊥
unfolding kind_of
stops_kind s (inl q) e = true-false (ap is_text e) (rw q refl)
stops_kind s (inr (u, inl q)) e = true-false (ap is_text (ap (kind_of false) (sym q) ∙ e)) (less_kind u)
stops_kind s (inr (u, inr q)) e = true-false (ap is_text (ap (kind_of false) (sym q) ∙ e)) (and_kind u)
