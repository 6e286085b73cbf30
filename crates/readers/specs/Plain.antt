-- Items that end at a text: [14] CharData up to the next `<`, `&` or the end, [15] Comment, [18] CDSect.
-- On bytes that are no characters they go by the bytes; on characters they read the productions (proofs/).
use Rattle.std.specs.Prelude.{Bool, cond, ◌||◌, List, [], ◌∷◌, ℕ, eqb}
use Rattle.std.proofs.Math.Option.{Option, none, some}
use Rattle.xml.specs.Notation.{bytes}
use Rattle.xml.specs.Character.{begins}
use Rattle.readers.specs.Read.{and_then, expect, seek}

-- `<`, `&` or the byte q
unfoldable pub is_mark : ℕ → ℕ → Bool
is_mark q b = eqb b 0x3C || (eqb b 0x26 || eqb b q)

-- text, up to the next `<`, `&` or the end; none where `]]>` stands in it
unfoldable pub text_of : List ℕ → Option (List ℕ)
text_of [] = some []
text_of (b ∷ s) =
    let later = text_of s in cond (eqb b 0x3C || eqb b 0x26) (some (b ∷ s)) (cond (begins (bytes "]]>") (b ∷ s)) none later)

-- up to the first `--`, which `>` must follow
unfoldable pub comment_of : List ℕ → Option (List ℕ)
comment_of s = and_then (expect (bytes "<!--") s) (λ t. expect (bytes "-->") (seek (bytes "--") t))

unfoldable pub section_of : List ℕ → Option (List ℕ)
section_of s = and_then (expect (bytes "<![CDATA[") s) (λ t. expect (bytes "]]>") (seek (bytes "]]>") t))
