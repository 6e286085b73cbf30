-- Which input is a packed form, and of which text, as executable definitions. The input is first spelled as text whatever its bytes are:
-- what is missing reads as 0, and no byte is judged. If that text is a sound list and its packed form is the input, to the last byte, it is
-- the one; otherwise there is none. proofs/Meaning.antt shows that this is `PackedForm`, both ways. In order: bytes; a step; a test; a
-- line; all.
use Rattle.std.specs.Prelude.{Bool, cond, ◌&&◌, List, [], ◌∷◌, ◌++◌, ℕ, zero, suc, ◌+◌, eqb, length, take, drop, get_or, is_ok}
use Rattle.std.proofs.Math.Option.{Option, none, some}
use Rattle.xml.specs.Notation.{bytes}
use Rattle.xml.specs.Character.{begins}
use Rattle.paths.specs.Path.{print_kind, print_mark}
use Rattle.paths.specs.Judge.{list_answer}
use Rattle.paths.specs.declared.Kind.{Kind}
use Rattle.paths.specs.declared.Kind.TheVariants.{Child, Descendant, SelfStep, DescendantOrSelf}
use Rattle.packed.specs.Packed.{pack_of}

-- a part of the input as text, and how many bytes it takes there
pub record Piece : Type 0 where
  pub text : List ℕ
  pub size : ℕ

-- ---- a step

unfoldable pub kind_of : ℕ → Kind
kind_of k = cond (eqb k 0) Child (cond (eqb k 1) Descendant (cond (eqb k 2) SelfStep DescendantOrSelf))

-- n bytes of s, or `*`
abbrev pub spell_name : ℕ → List ℕ → List ℕ
spell_name n s = cond (eqb n 0) (bytes "*") (take n s)

unfoldable pub spell_step : List ℕ → Piece
spell_step s =
    record { text = print_kind (kind_of (get_or s 0 0)) ++ spell_name (get_or s 1 0) (drop 2 s); size = 2 + get_or s 1 0 }

-- a piece, and behind it another
abbrev pub join : Piece → Piece → Piece
join a b = record { text = a.text ++ b.text; size = a.size + b.size }

-- so many steps
unfoldable pub spell_steps : ℕ → List ℕ → Piece
spell_steps zero s = record { text = []; size = 0 }
spell_steps (suc k) s = join (spell_step s) (spell_steps k (drop (spell_step s).size s))

-- ---- an attribute test: a name of n bytes, a value of m

abbrev pub spell_tested : ℕ → ℕ → List ℕ → Piece
spell_tested n m s =
    record { text = bytes "[@" ++ (take n (drop 1 s) ++ (bytes "=\"" ++ (take m (drop (2 + n) s) ++ bytes "\"]"))); size = 2 + n + m }

unfoldable pub spell_attribute : List ℕ → Piece
spell_attribute s =
    cond (eqb (get_or s 0 0) 0) (record { text = []; size = 1 }) (spell_tested (get_or s 0 0) (get_or s (1 + get_or s 0 0) 0) s)

-- ---- a line: two bytes of its length, its mark, the number of its steps; the steps and the test

abbrev pub spell_end : ℕ → List ℕ
spell_end mark = print_mark (eqb mark 1) ++ bytes "\n"

abbrev pub spell_record : ℕ → Piece → Piece → Piece
spell_record mark steps test = record { text = steps.text ++ (test.text ++ spell_end mark); size = 4 + steps.size + test.size }

abbrev pub steps_in : List ℕ → Piece
steps_in s = spell_steps (get_or s 3 0) (drop 4 s)

unfoldable pub spell_line : List ℕ → Piece
spell_line s = spell_record (get_or s 2 0) (steps_in s) (spell_attribute (drop (4 + (steps_in s).size) s))

-- ---- all: as many lines as there are, at most k

unfoldable pub spell_lines : ℕ → List ℕ → List ℕ
spell_lines zero s = []
spell_lines (suc k) [] = []
spell_lines (suc k) (b ∷ s) = (spell_line (b ∷ s)).text ++ spell_lines k (drop (spell_line (b ∷ s)).size (b ∷ s))

-- behind the version byte at most 32 lines
unfoldable pub spelled : List ℕ → List ℕ
spelled d = spell_lines 32 (drop 1 d)

-- ---- which input is a packed form, and of which text

-- the same bytes
unfoldable pub same : List ℕ → List ℕ → Bool
same a b = eqb (length a) (length b) && begins a b

-- s is a sound list, and d its packed form
unfoldable pub packs : List ℕ → List ℕ → Bool
packs d s = is_ok (list_answer s) && same (pack_of s) d

unfoldable pub text_of : List ℕ → Option (List ℕ)
text_of d = cond (packs d (spelled d)) (some (spelled d)) none
