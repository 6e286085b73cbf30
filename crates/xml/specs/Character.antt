-- The character at the front of some bytes, found by computing: the number that the bytes would make, taken if it is a scalar value whose
-- UTF-8 stands there. proofs/Character.antt shows that it is found wherever there is one. Then runs of characters of a class.
use Rattle.std.specs.Prelude.{Bool, true, false, cond, ◌&&◌, List, [], ◌∷◌, ℕ, zero, suc, pred, ◌+◌, ◌*◌, ◌%◌, length, get_or, eqb, ltb}
use Rattle.std.proofs.Math.Option.{Option, none, some}
use Rattle.xml.specs.Utf8.{utf8, is_scalar}

-- w stands at the front of s
abbrev pub begins : List ℕ → List ℕ → Bool
begins [] s = true
begins (x ∷ w) [] = false
begins (x ∷ w) (y ∷ s) = eqb y x && begins w s

-- the number that a first byte a and three more would make
unfoldable pub value_of : ℕ → ℕ → ℕ → ℕ → ℕ
value_of a b c d =
    cond (ltb a 0x80) a
    (cond (ltb a 0xE0) (a % 0x20 * 0x40 + b % 0x40)
    (cond (ltb a 0xF0) (a % 0x10 * 0x1000 + b % 0x40 * 0x40 + c % 0x40)
    (a % 8 * 0x40000 + b % 0x40 * 0x1000 + c % 0x40 * 0x40 + d % 0x40)))

unfoldable pub guess : List ℕ → ℕ
guess s = value_of (get_or s 0 0) (get_or s 1 0) (get_or s 2 0) (get_or s 3 0)

unfoldable pub character : List ℕ → Option ℕ
character s = cond (is_scalar (guess s) && begins (utf8 (guess s)) s) (some (guess s)) none

-- a character of the class p stands at the front of s
abbrev pub holds : (ℕ → Bool) → Option ℕ → Bool
holds p none = false
holds p (some c) = p c

unfoldable pub starts : (ℕ → Bool) → List ℕ → Bool
starts p s = holds p (character s)

-- how many bytes the character at the front takes
abbrev pub wide : Option ℕ → ℕ
wide none = 1
wide (some c) = length (utf8 c)

-- s without its first k bytes, and then without the characters of the class p at its front
unfoldable pub run : (ℕ → Bool) → ℕ → List ℕ → List ℕ
run p k [] = []
run p (suc k) (a ∷ s) = run p k s
run p zero (a ∷ s) = let later = run p (pred (wide (character (a ∷ s)))) s in cond (starts p (a ∷ s)) later (a ∷ s)
