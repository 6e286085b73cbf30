-- XML's notation computed: all that can be left of s where a rule reads its front, and with it whether a rule derives s. A rule's worked
-- examples are computed by it; proofs/Computes.antt shows that it gives just what `Reads` says. Nothing else rests on it.
use Rattle.std.specs.Prelude.{Bool, false, cond, not, ◌||◌, List, [], ◌∷◌, ◌++◌, ℕ, zero, suc, ◌-◌, length, take, drop, eqb, ltb}
use Rattle.std.proofs.Math.Option.{Option, none, some}
use Rattle.xml.specs.Utf8.{utf8}
use Rattle.xml.specs.Notation.{Rule, lit, char, ◌⨾◌, ◌∖◌, ◌∣◌, ◌∗, such}
use Rattle.xml.specs.Productions.{same}
use Rattle.xml.specs.Character.{character}

-- what follows w, where w stands at the front
unfoldable pub strip : List ℕ → List ℕ → List (List ℕ)
strip [] s = s ∷ []
strip (x ∷ w) [] = []
strip (x ∷ w) (y ∷ s) = cond (eqb x y) (strip w s) []

-- what follows the character at the front, where it is of the class p
unfoldable pub after : (ℕ → Bool) → Option ℕ → List ℕ → List (List ℕ)
after p none s = []
after p (some c) s = cond (p c) (drop (length (utf8 c)) s ∷ []) []

unfoldable pub each : (List ℕ → List (List ℕ)) → List (List ℕ) → List (List ℕ)
each f [] = []
each f (t ∷ ts) = f t ++ each f ts

unfoldable pub keep : (List ℕ → Bool) → List (List ℕ) → List (List ℕ)
keep p [] = []
keep p (t ∷ ts) = cond (p t) (t ∷ keep p ts) (keep p ts)

unfoldable pub member : List ℕ → List (List ℕ) → Bool
member t [] = false
member t (u ∷ us) = same t u || member t us

-- any number of times, at most k that take something
unfoldable pub repeat : (List ℕ → List (List ℕ)) → ℕ → List ℕ → List (List ℕ)
repeat f zero s = s ∷ []
repeat f (suc k) s = s ∷ each (repeat f k) (keep (λ t. ltb (length t) (length s)) (f s))

unfoldable pub rests : Rule → List ℕ → List (List ℕ)
rests (lit w) s = strip w s
rests (char p) s = after p (character s) s
rests (a ⨾ b) s = each (rests b) (rests a s)
rests (a ∖ b) s = keep (λ t. not (member t (rests b s))) (rests a s)
rests (a ∣ b) s = rests a s ++ rests b s
rests (a ∗) s = repeat (rests a) (length s) s
rests (such a p) s = keep (λ t. p (take (length s - length t) s)) (rests a s)

unfoldable pub derives : Rule → List ℕ → Bool
derives r s = member [] (rests r s)
