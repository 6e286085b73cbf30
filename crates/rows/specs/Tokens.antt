-- The table token by token, as the code goes through a document: a record stands at its start tag, and its text is gathered from there on.
-- proofs/Tokens.antt shows that it is the table of the forest.
use Rattle.std.specs.Prelude.{false, List, [], ◌∷◌, ◌++◌, ℕ, zero, suc, length}
use Rattle.xml.specs.Forest.{Name}
use Rattle.trees.specs.Cut.{Judge, on}
use Rattle.trees.specs.Grown.{Token, start, finish, aside, tokens_from}
use Rattle.trees.specs.Engine.{outer}
use Rattle.rows.specs.Text.{said_of}
use Rattle.rows.specs.Table.{record_by}

-- what an item says at a depth below the element: directly in it at 0
abbrev pub said_at : ℕ → List ℕ → List ℕ
said_at zero raw = said_of raw
said_at (suc n) raw = []

-- the text directly in an element, of the tokens behind its start, n elements deep inside it: up to its end
abbrev pub text_over : ℕ → List Token → List ℕ
text_over n [] = []
text_over n (start t ∷ ts) = text_over (suc n) ts
text_over zero (finish raw ∷ ts) = []
text_over (suc n) (finish raw ∷ ts) = text_over n ts
text_over n (aside raw ∷ ts) = said_at n raw ++ text_over n ts

-- the records of the elements that tokens start, inside those of the names `up`
abbrev pub records_over : Judge → List Token → List Name → List ℕ
records_over v [] up = []
records_over v (start t ∷ ts) up = record_by (on v t up) (t.name ∷ up) (text_over 0 ts) ++ records_over v ts (t.name ∷ up)
records_over v (finish raw ∷ ts) up = records_over v ts (outer up)
records_over v (aside raw ∷ ts) up = records_over v ts up

-- the text directly in an element, n deep, from a place of the document on; there are fewer items than that
unfoldable pub text_from : ℕ → List ℕ → ℕ → List ℕ
text_from n d at = text_over n (tokens_from (suc (length d)) d at false)
