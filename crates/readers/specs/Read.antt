-- Readers on what is left of a document: each gives what follows, or nothing. In order: how they are put together; a text and its first
-- place; a character, white space; any number of pieces.
use Rattle.std.specs.Prelude.{Bool, true, false, cond, List, [], ◌∷◌, ℕ, zero, suc, ◌-◌, length, drop}
use Rattle.std.proofs.Math.Option.{Option, none, some}
use Rattle.xml.specs.Character.{begins, starts, run}
use Rattle.xml.specs.Productions.{is_space}

-- ---- put together

abbrev pub and_then : {A B : Type 0} → Option A → (A → Option B) → Option B
and_then none f = none
and_then (some x) f = f x

-- the first of two that gives something
abbrev pub or_else : {A : Type 0} → Option A → Option A → Option A
or_else none b = b
or_else (some x) b = some x

-- what follows, or all of s where nothing is read
abbrev pub or_stay : Option (List ℕ) → List ℕ → List ℕ
or_stay none s = s
or_stay (some t) s = t

-- ---- a text

-- w, and what follows it
unfoldable pub expect : List ℕ → List ℕ → Option (List ℕ)
expect w s = cond (begins w s) (some (drop (length w) s)) none

-- s from the first place on where w stands, or nothing of it
unfoldable pub seek : List ℕ → List ℕ → List ℕ
seek w [] = []
seek w (b ∷ s) = let later = seek w s in cond (begins w (b ∷ s)) (b ∷ s) later

-- ---- white space, [3]: S? and S

unfoldable pub skip : List ℕ → List ℕ
skip s = run is_space 0 s

unfoldable pub space_of : List ℕ → Option (List ℕ)
space_of s = cond (starts is_space s) (some (skip s)) none

-- ---- any number of pieces

abbrev pub passed : Option (List ℕ) → ℕ → ℕ
passed none n = 0
passed (some t) n = n - length t

abbrev pub given : {A : Type 0} → Option A → Bool
given none = false
given (some x) = true

-- s without its first k bytes, and then without the pieces at its front
unfoldable pub many : (List ℕ → Option (List ℕ)) → ℕ → List ℕ → List ℕ
many f k [] = []
many f (suc k) (b ∷ s) = many f k s
many f zero (b ∷ s) = let later = many f (passed (f (b ∷ s)) (length s)) s in cond (given (f (b ∷ s))) later (b ∷ s)
