-- A number in decimal, as a person writes it: the most significant digit first, and no zero in front. Examples stand below.
use Rattle.std.specs.Prelude.{◌≡◌, refl, cond, List, [], ◌∷◌, ◌++◌, map, ℕ, zero, suc, ◌+◌, ◌/◌, ◌%◌, ltb}
use Rattle.xml.specs.Notation.{bytes}

-- the last digit of a number, in ASCII
abbrev pub last_digit : ℕ → ℕ
last_digit n = 48 + n % 10

-- the last digit, and before it those of the number without it, where there are any; k is more than the digits there can be
unfoldable pub decimal_by : ℕ → ℕ → List ℕ
decimal_by zero n = []
decimal_by (suc k) n = cond (ltb n 10) [] (decimal_by k (n / 10)) ++ (last_digit n ∷ [])

unfoldable pub decimal : ℕ → List ℕ
decimal n = decimal_by (suc n) n

examples : map decimal (0 ∷ 9 ∷ 10 ∷ 100 ∷ 65536 ∷ []) ≡ map bytes ("0" ∷ "9" ∷ "10" ∷ "100" ∷ "65536" ∷ [])
unfolding decimal decimal_by
examples = refl
