-- A value made normal: "the value, with line ends first made LF, then each literal tab and LF made a space and each reference replaced by
-- its character". Only characters that stand for themselves are made anything: `&#10;` stays LF.
use Rattle.std.specs.Prelude.{Bool, true, false, cond, ◌||◌, List, [], ◌∷◌, ◌++◌, ℕ, eqb}
use Rattle.xml.specs.Utf8.{utf8}
use Rattle.xml.specs.Sign.{Sign, literal, referred}

-- "line ends first made LF": CR LF and CR; by whether a CR stands before, and whether the character is CR or LF
abbrev pub line_by : Bool → Bool → Bool → ℕ → List Sign → List Sign
line_by after true lf c xs = literal 0xA ∷ xs
line_by true false true c xs = xs
line_by true false false c xs = literal c ∷ xs
line_by false false lf c xs = literal c ∷ xs

unfoldable pub lines_from : Bool → List Sign → List Sign
lines_from after [] = []
lines_from after (literal c ∷ xs) = line_by after (eqb c 0xD) (eqb c 0xA) c (lines_from (eqb c 0xD) xs)
lines_from after (referred c ∷ xs) = referred c ∷ lines_from false xs

unfoldable pub lines : List Sign → List Sign
lines xs = lines_from false xs

-- "then each literal tab and LF made a space and each reference replaced by its character"
unfoldable pub char_of : Sign → ℕ
char_of (literal c) = cond (eqb c 0x9 || eqb c 0xA) 0x20 c
char_of (referred c) = c

-- in UTF-8, since it "equals it byte for byte"
unfoldable pub encoded : List Sign → List ℕ
encoded [] = []
encoded (x ∷ xs) = utf8 (char_of x) ++ encoded xs

unfoldable pub normal : List Sign → List ℕ
normal xs = encoded (lines xs)
