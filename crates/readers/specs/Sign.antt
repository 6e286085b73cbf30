-- The next character with its origin, found by computing: in text, in a CDATA section, in a value in either quotes (xml/specs/Sign). Then
-- all that come one after the other, and what is left behind them. Text with its characters, in the grammar's words, is at the end.
use Rattle.std.specs.Prelude.{◌≡◌, Bool, false, cond, not, ◌&&◌, List, [], ◌∷◌, map, ◌⊎◌, ℕ, zero, suc, ◌-◌, length, drop}
use Rattle.std.proofs.Math.Option.{Option, none, some}
use Rattle.xml.specs.Notation.{Reads, ◌∣◌, bytes, text}
use Rattle.xml.specs.Utf8.{utf8}
use Rattle.xml.specs.Character.{begins, character}
use Rattle.xml.specs.Sign.{Sign, literal, referred, Where, in_text, in_section, in_double, in_single, plain_in, refers_in, Signs}
use Rattle.readers.specs.Value.{Said, reference_of}

-- the character, and what follows it
pub record Next : Type 0 where
  pub sign : Sign
  pub rest : List ℕ

abbrev pub by_reference : Option Said → Option Next
by_reference none = none
by_reference (some r) = some (record { sign = referred r.code; rest = r.rest })

-- `]]>` stands at the front, where it ends a section and may not stand in text
abbrev pub closed : Where → List ℕ → Bool
closed in_text s = begins (bytes "]]>") s
closed in_section s = begins (bytes "]]>") s
closed in_double s = false
closed in_single s = false

abbrev pub by_itself : Where → List ℕ → Option ℕ → Option Next
by_itself w s none = none
by_itself w s (some c) =
    cond (plain_in w c && not (closed w s)) (some (record { sign = literal c; rest = drop (length (utf8 c)) s })) none

unfoldable pub next_of : Where → List ℕ → Option Next
next_of w s = cond (refers_in w && begins (bytes "&") s) (by_reference (reference_of s)) (by_itself w s (character s))

-- ---- all that come one after the other

-- what follows the next alone
abbrev pub next_rest : Option Next → Option (List ℕ)
next_rest none = none
next_rest (some n) = some n.rest

abbrev pub next_end : Where → List ℕ → Option (List ℕ)
next_end w s = next_rest (next_of w s)

abbrev pub signs_by : Option Next → (ℕ → List Sign) → ℕ → List Sign
signs_by none later n = []
signs_by (some x) later n = x.sign ∷ later (n - length x.rest)

-- those of s without its first k bytes; `many (next_end w)` is what they leave
unfoldable pub signs_in : Where → ℕ → List ℕ → List Sign
signs_in w k [] = []
signs_in w (suc k) (b ∷ s) = signs_in w k s
signs_in w zero (b ∷ s) = signs_by (next_of w (b ∷ s)) (λ k. signs_in w k s) (length s)

-- ---- text with its characters, which all stand for themselves: it goes up to the next `<`, `&` or the end

pub record Texted (cs s t : List ℕ) : Type 0 where
  pub signs : Signs in_text (map literal cs) s t
  pub stops : (t ≡ []) ⊎ ((u : List ℕ) × Reads (text "<" ∣ text "&") t u)
