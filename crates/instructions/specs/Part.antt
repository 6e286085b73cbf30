-- The parts of a declaration: each is a word, and what stands in its quotes; what stands before the encoding, and what behind it.
-- And a place further on where something stands.
use Rattle.std.specs.Prelude.{Bool, false, List, ℕ, ◌≤◌}
use Rattle.std.proofs.Math.Option.{Option}
use Rattle.xml.specs.Notation.{bytes}
use Rattle.utf8.specs.Place.{Stands}
use Rattle.readers.specs.Read.{and_then, or_stay, expect, skip}
use Rattle.readers.specs.Value.{is_decimal}
use Rattle.readers.specs.Named.{version_of, is_encoding, encoding_of, other_of, yes_or_no, setting_of}
use Rattle.instructions.specs.declared.declaration.Part.{Part}
use Rattle.instructions.specs.declared.declaration.Part.TheVariants.{Version, Encoding, Other, Standalone}

abbrev pub word_of : Part → List ℕ
word_of Version = bytes "version"
word_of Encoding = bytes "encoding"
word_of Other = bytes "encoding"
word_of Standalone = bytes "standalone"

abbrev pub body_of : Part → List ℕ → Option (List ℕ)
body_of Version = version_of
body_of Encoding = encoding_of
body_of Other = other_of
body_of Standalone = yes_or_no

-- what goes on with it
abbrev pub class_of : Part → ℕ → Bool
class_of Version = is_decimal
class_of Encoding = is_encoding
class_of Other = λ c. false
class_of Standalone = λ c. false

abbrev pub part_of : Part → List ℕ → Option (List ℕ)
part_of p = setting_of (word_of p) (body_of p)

-- `<?xml` and a version; `standalone` or not, white space or not, and `?>`
abbrev pub opening_of : List ℕ → Option (List ℕ)
opening_of s = and_then (expect (bytes "<?xml") s) (part_of Version)

abbrev pub closing_of : List ℕ → Option (List ℕ)
closing_of s = expect (bytes "?>") (skip (or_stay (part_of Standalone s) s))

-- at the place r, from at on, stands t
pub record Goes (d : List ℕ) (at r : ℕ) (t : List ℕ) : Type 0 where
  pub ahead : at ≤ r
  pub stands : Stands d r t
