-- A forest and its tokens give each other. `nested n ts`: the tokens close n levels that were open before them, all levels that they open,
-- and no more. Of such tokens the forest is grown that has them; and a forest's tokens are such tokens, of which it is grown.
use mathlib.Core.Path.{◌≡◌, refl, sym, ap, ◌∙◌}
use mathlib.Core.Bool.{Bool, true, false, false≢true}
use mathlib.Core.List.{List, [], ◌∷◌}
use Prim.Native.Nat.{ℕ, zero, suc}
use native.Mathlib.Omega.{arith}
use lib.ListN.{length}
use Rattle.xml.specs.Forest.{Tag, Forest, nil, other, elem}
use Rattle.trees.specs.Grown.{Token, start, finish, aside, Growth, rooted, grow, grown, tokens}

abbrev pub nested : ℕ → List Token → Bool
nested zero [] = true
nested (suc n) [] = false
nested n (start t ∷ ts) = nested (suc n) ts
nested zero (finish raw ∷ ts) = false
nested (suc n) (finish raw ∷ ts) = nested n ts
nested n (aside raw ∷ ts) = nested n ts

-- ---- tokens, the forest grown of them, and its tokens

-- what has grown, as tokens again
abbrev ends : List (List ℕ × Forest) → List Token
ends [] = []
ends (x ∷ xs) = finish x.0 ∷ tokens x.1 (ends xs)

abbrev spread : Growth → List Token
spread g = tokens g.front (ends g.after)

pub record Spreads (n : ℕ) (ts : List Token) (g : Growth) : Type 0 where
  pub wait : length g.after ≡ n
  pub back : spread g ≡ ts

start_spreads : (t : Tag) (f : Forest) (xs : List (List ℕ × Forest)) (n : ℕ) (ts : List Token) → length xs ≡ suc n
    → tokens f (ends xs) ≡ ts → Spreads n (start t ∷ ts) (rooted t f xs)
start_spreads t f [] n ts l e = absurd (omega arith)
start_spreads t f (x ∷ xs) n ts l e = record { wait = omega arith; back = rw e }

grown_spreads : (n : ℕ) (ts : List Token) → nested n ts ≡ true → Spreads n ts (grown ts)
grown_spreads zero [] e = record { wait = refl; back = refl }
grown_spreads (suc n) [] e = absurd (false≢true e)
grown_spreads n (start t ∷ ts) e =
    let r = grown_spreads (suc n) ts e in
    start_spreads t (grown ts).front (grown ts).after n ts r.wait r.back
grown_spreads zero (finish raw ∷ ts) e = absurd (false≢true e)
grown_spreads (suc n) (finish raw ∷ ts) e =
    let r = grown_spreads n ts e in
    record { wait = ap suc r.wait; back = rw r.back }
grown_spreads n (aside raw ∷ ts) e =
    let r = grown_spreads n ts e in
    record { wait = r.wait; back = rw r.back }

pub grown_tokens : (ts : List Token) → nested 0 ts ≡ true → tokens (grown ts).front [] ≡ ts
grown_tokens ts e = let r = grown_spreads 0 ts e in go (grown ts).after r.wait r.back
  where
    go : (xs : List (List ℕ × Forest)) → length xs ≡ 0 → tokens (grown ts).front (ends xs) ≡ ts → tokens (grown ts).front [] ≡ ts
    go [] l q = q
    go (x ∷ xs) l q = absurd (omega arith)

-- ---- a forest, its tokens, and the forest grown of them

pub tokens_nested : (n : ℕ) (f : Forest) (ts : List Token) → nested n (tokens f ts) ≡ nested n ts
tokens_nested n nil ts = refl
tokens_nested n (other raw rest) ts = tokens_nested n rest ts
tokens_nested n (elem t kids close rest) ts =
    tokens_nested (suc n) kids (finish close ∷ tokens rest ts) ∙ tokens_nested n rest ts

-- a forest, then another
abbrev joined : Forest → Forest → Forest
joined nil g = g
joined (other raw rest) g = other raw (joined rest g)
joined (elem t kids close rest) g = elem t kids close (joined rest g)

joined-nil : (f : Forest) → joined f nil ≡ f
joined-nil nil = refl
joined-nil (other raw rest) = rw (joined-nil rest)
joined-nil (elem t kids close rest) = rw (joined-nil rest)

abbrev before : Forest → Growth → Growth
before f g = record { front = joined f g.front; after = g.after }

tokens_before : (f : Forest) (ts : List Token) → grown (tokens f ts) ≡ before f (grown ts)
tokens_before nil ts = refl
tokens_before (other raw rest) ts = ap (grow (aside raw)) (tokens_before rest ts)
tokens_before (elem t kids close rest) ts =
    ap (grow (start t)) (tokens_before kids (finish close ∷ tokens rest ts))
    ∙ rw (joined-nil kids, tokens_before rest ts)

pub tokens_grown : (f : Forest) → (grown (tokens f [])).front ≡ f
tokens_grown f = ap (λ (g : Growth). g.front) (tokens_before f []) ∙ joined-nil f

-- so no other forest has its tokens
pub tokens_one : (f g : Forest) → tokens f [] ≡ tokens g [] → f ≡ g
tokens_one f g e = sym (tokens_grown f) ∙ ap (λ (ts : List Token). (grown ts).front) e ∙ tokens_grown g
