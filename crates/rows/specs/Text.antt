-- "the text directly in the element, CDATA content included, literal CR LF and CR made LF, references replaced". In order: line ends; what
-- an item says; the text of an element. CR and LF make one line end where they stand side by side in one item: text goes up to the next
-- `<`, `&` or the end, so those of two items have something between them in the document.
use Rattle.std.specs.Prelude.{Bool, true, false, cond, List, [], ◌∷◌, ◌++◌, ℕ, ◌-◌, eqb, length, take, drop}
use Rattle.std.proofs.Math.Option.{Option, none, some}
use Rattle.xml.specs.Notation.{bytes}
use Rattle.xml.specs.Utf8.{utf8}
use Rattle.xml.specs.Character.{begins}
use Rattle.xml.specs.Forest.{Forest, nil, other, elem}
use Rattle.readers.specs.Value.{Said, reference_of}

-- ---- "literal CR LF and CR made LF"

-- the byte b, before what follows it, by whether a CR stands before it, and whether it is CR or LF
unfoldable pub line_by : Bool → Bool → Bool → ℕ → List ℕ → List ℕ
line_by after true lf b s = 0xA ∷ s
line_by true false true b s = s
line_by true false false b s = b ∷ s
line_by false false lf b s = b ∷ s

unfoldable pub lines_from : Bool → List ℕ → List ℕ
lines_from after [] = []
lines_from after (b ∷ s) = line_by after (eqb b 0xD) (eqb b 0xA) b (lines_from (eqb b 0xD) s)

unfoldable pub lines : List ℕ → List ℕ
lines s = lines_from false s

-- ---- what an item that is no tag says, by its bytes

-- "CDATA content": without `<![CDATA[` and `]]>`
unfoldable pub content : List ℕ → List ℕ
content raw = take (length raw - 12) (drop 9 raw)

-- "references replaced": the character that it says, in UTF-8
abbrev pub said_by : Option Said → List ℕ
said_by none = []
said_by (some r) = utf8 r.code

-- a section; a comment or an instruction, which says nothing; a reference; and text
unfoldable pub said_of : List ℕ → List ℕ
said_of raw =
    cond (begins (bytes "<![CDATA[") raw) (lines (content raw))
    (cond (begins (bytes "<") raw) []
    (cond (begins (bytes "&") raw) (said_by (reference_of raw)) (lines raw)))

-- ---- "the text directly in the element": of the items inside it those that are no element, one after the other

abbrev pub text_in : Forest → List ℕ
text_in nil = []
text_in (other raw rest) = said_of raw ++ text_in rest
text_in (elem t kids close rest) = text_in rest
