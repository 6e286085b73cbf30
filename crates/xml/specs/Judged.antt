-- How a rule's worked examples are stated: the texts that it derives and the texts that it does not, judged by one computed test. In
-- order: a text's bytes; a table of texts, and of single characters by number; the test.
use Rattle.std.specs.Prelude.{Bool, true, not, ◌&&◌, List, [], ◌∷◌, ◌++◌, ℕ}
use Prim.Native.Char.{code}
use Prim.Native.String.{String, [] as ε, ◌∷◌ as ◌⊳◌}
use Rattle.xml.specs.Utf8.{utf8, is_scalar}
use Rattle.xml.specs.Notation.{Rule}
use Rattle.xml.specs.Productions.{is_char, is_space, is_name_start, is_name_more, is_name, except, declared, digit_of, legal}
use Rattle.xml.specs.Character.{value_of, guess, character}
use Rattle.xml.specs.Computes.{strip, after, each, keep, member, repeat, rests, derives}

-- the bytes of a text of any characters
unfoldable pub written : String → List ℕ
unfolding utf8
written ε = []
written (c ⊳ s) = utf8 (code c) ++ written s

unfoldable pub texts : List String → List (List ℕ)
unfolding written
texts [] = []
texts (x ∷ xs) = written x ∷ texts xs

unfoldable pub signs : List ℕ → List (List ℕ)
unfolding utf8
signs [] = []
signs (c ∷ cs) = utf8 c ∷ signs cs

unfoldable pub every : (List ℕ → Bool) → List (List ℕ) → Bool
every p [] = true
every p (w ∷ ws) = p w && every p ws

-- r derives every text of the first table and none of the second
unfoldable pub judged : Rule → List (List ℕ) → List (List ℕ) → Bool
unfolding texts signs every derives rests strip after each keep member repeat character guess value_of is_scalar is_char is_space
    is_name_start is_name_more is_name except declared digit_of legal
judged r good bad = every (derives r) good && every (λ w. not (derives r w)) bad
