-- Items with names: [16] PI, [23] XMLDecl, and whether it names another encoding than UTF-8, [42] ETag, [40] STag and [44] EmptyElemTag,
-- and what a tag holds.
-- Attributes are gathered with their names.
use Rattle.std.specs.Prelude.{Bool, true, false, cond, ◌&&◌, ◌||◌, List, [], ◌∷◌, ℕ, zero, suc, ◌-◌, eqb, leb, length, take}
use Rattle.std.proofs.Math.Option.{Option, none, some}
use Rattle.xml.specs.Range.{◌to◌, sign, within}
use Rattle.xml.specs.Notation.{bytes, among}
use Rattle.xml.specs.Character.{starts, run}
use Rattle.xml.specs.Productions.{is_space, same}
use Rattle.chars.specs.Name.{name_of}
use Rattle.readers.specs.Read.{and_then, or_else, or_stay, expect, seek, skip, space_of, given}
use Rattle.readers.specs.Value.{is_decimal, value_of}

-- what stands in s before t
unfoldable pub before : List ℕ → List ℕ → List ℕ
before s t = take (length s - length t) s

-- ---- instructions

-- `xml` in any case
abbrev pub is_xml : List ℕ → Bool
is_xml [] = false
is_xml (x ∷ []) = false
is_xml (x ∷ m ∷ []) = false
is_xml (x ∷ m ∷ l ∷ []) = among (bytes "Xx") x && (among (bytes "Mm") m && among (bytes "Ll") l)
is_xml (x ∷ m ∷ l ∷ b ∷ w) = false

unfoldable pub target_of : List ℕ → Option (List ℕ)
target_of s = and_then (name_of s) (λ t. cond (is_xml (before s t)) none (some t))

-- after the target: `?>`, or white space and all up to the first `?>`
unfoldable pub instruction_end : List ℕ → Option (List ℕ)
instruction_end s = or_else (expect (bytes "?>") s) (cond (starts is_space s) (expect (bytes "?>") (seek (bytes "?>") s)) none)

unfoldable pub instruction_of : List ℕ → Option (List ℕ)
instruction_of s = and_then (expect (bytes "<?") s) (λ t. and_then (target_of t) instruction_end)

-- ---- the declaration

-- [25] Eq
unfoldable pub eq_of : List ℕ → Option (List ℕ)
eq_of s = and_then (expect (bytes "=") (skip s)) (λ t. some (skip t))

-- what f reads, in quotes of either kind
abbrev pub in_quotes : (List ℕ → Option (List ℕ)) → List ℕ → Option (List ℕ)
in_quotes f s =
    or_else (and_then (expect (bytes "'") s) (λ t. and_then (f t) (expect (bytes "'"))))
    (and_then (expect (bytes "\"") s) (λ t. and_then (f t) (expect (bytes "\""))))

-- S, the word w, Eq, and what f reads in quotes
abbrev pub setting_of : List ℕ → (List ℕ → Option (List ℕ)) → List ℕ → Option (List ℕ)
setting_of w f s = and_then (space_of s) (λ t. and_then (expect w t) (λ u. and_then (eq_of u) (in_quotes f)))

-- one character or more of the class p
abbrev pub some_run : (ℕ → Bool) → List ℕ → Option (List ℕ)
some_run p s = cond (starts p s) (some (run p 0 s)) none

-- [26] VersionNum
unfoldable pub version_of : List ℕ → Option (List ℕ)
version_of s = and_then (expect (bytes "1.") s) (some_run is_decimal)

-- [81] EncName
unfoldable pub is_letter : ℕ → Bool
is_letter = within ("A" to "Z" ∷ "a" to "z" ∷ [])

unfoldable pub is_encoding : ℕ → Bool
is_encoding = within ("A" to "Z" ∷ "a" to "z" ∷ "0" to "9" ∷ sign "." ∷ sign "_" ∷ sign "-" ∷ [])

unfoldable pub encoding_of : List ℕ → Option (List ℕ)
encoding_of s = cond (starts is_letter s) (some (run is_encoding 0 s)) none

unfoldable pub yes_or_no : List ℕ → Option (List ℕ)
yes_or_no s = or_else (expect (bytes "yes") s) (expect (bytes "no") s)

-- [23] with f for what stands as the encoding
abbrev pub declaration_by : (List ℕ → Option (List ℕ)) → List ℕ → Option (List ℕ)
declaration_by f s =
    and_then (expect (bytes "<?xml") s) (λ t. and_then (setting_of (bytes "version") version_of t) (λ u. and_then (f u) (λ v.
    expect (bytes "?>") (skip (or_stay (setting_of (bytes "standalone") yes_or_no v) v)))))

unfoldable pub declaration_of : List ℕ → Option (List ℕ)
declaration_of = declaration_by (λ u. some (or_stay (setting_of (bytes "encoding") encoding_of u) u))

-- ---- another encoding

-- `UTF-8` in any case
abbrev pub is_utf8 : List ℕ → Bool
is_utf8 [] = false
is_utf8 (u ∷ []) = false
is_utf8 (u ∷ t ∷ []) = false
is_utf8 (u ∷ t ∷ f ∷ []) = false
is_utf8 (u ∷ t ∷ f ∷ h ∷ []) = false
is_utf8 (u ∷ t ∷ f ∷ h ∷ e ∷ []) =
    among (bytes "Uu") u && (among (bytes "Tt") t && (among (bytes "Ff") f && (eqb h 0x2D && eqb e 0x38)))
is_utf8 (u ∷ t ∷ f ∷ h ∷ e ∷ b ∷ w) = false

-- an EncName that is not `UTF-8`
unfoldable pub other_of : List ℕ → Option (List ℕ)
other_of s = and_then (encoding_of s) (λ t. cond (is_utf8 (before s t)) none (some t))

-- a declaration stands at the front, and names another encoding
unfoldable pub other_encoding : List ℕ → Bool
other_encoding s = given (declaration_by (setting_of (bytes "encoding") other_of) s)

-- ---- tags

-- a name, and what follows
pub record Piece : Type 0 where
  pub name : List ℕ
  pub rest : List ℕ

unfoldable pub piece_named : List ℕ → Option Piece
piece_named s = and_then (name_of s) (λ t. some (record { name = before s t; rest = t }))

-- S Attribute: the attribute's name, and what follows it all
unfoldable pub attribute_of : List ℕ → Option Piece
attribute_of s =
    and_then (space_of s) (λ t. and_then (piece_named t) (λ p. and_then (eq_of p.rest) (λ u. and_then (value_of u) (λ v.
    some (record { name = p.name; rest = v })))))

-- the names of the attributes at the front, and what follows them
pub record Gathered : Type 0 where
  pub names : List (List ℕ)
  pub rest : List ℕ

abbrev pub gathered_by : Option Piece → List ℕ → (ℕ → Gathered) → ℕ → Gathered
gathered_by none s later n = record { names = []; rest = s }
gathered_by (some p) s later n =
    let l = later (n - length p.rest) in record { names = p.name ∷ l.names; rest = l.rest }

-- those of s without its first k bytes
unfoldable pub gather : ℕ → List ℕ → Gathered
gather k [] = record { names = []; rest = [] }
gather (suc k) (b ∷ s) = gather k s
gather zero (b ∷ s) = gathered_by (attribute_of (b ∷ s)) (b ∷ s) (λ k. gather k s) (length s)

-- what a start tag or an empty tag holds: its name, its attributes' names, its bytes without the final `>` or `/>`
pub record Tag : Type 0 where
  pub name : List ℕ
  pub attributes : List (List ℕ)
  pub head : List ℕ
  pub empty : Bool
  pub rest : List ℕ

unfoldable pub tag_of : List ℕ → Option Tag
tag_of s =
    and_then (expect (bytes "<") s) (λ t. and_then (piece_named t) (λ p.
    let g = gather 0 p.rest in
    let e = skip g.rest in
    let tag : Bool → List ℕ → Option Tag
    = λ b u. some (record { name = p.name; attributes = g.names; head = before s e; empty = b; rest = u }) in
    or_else (and_then (expect (bytes ">") e) (tag false)) (and_then (expect (bytes "/>") e) (tag true))))

-- an end tag: its name, and what follows
unfoldable pub end_tag_of : List ℕ → Option Piece
end_tag_of s =
    and_then (expect (bytes "</") s) (λ t. and_then (piece_named t) (λ p.
    and_then (expect (bytes ">") (skip p.rest)) (λ u. some (record { name = p.name; rest = u }))))

-- ---- sizes and repeated names

abbrev pub small_all : List (List ℕ) → Bool
small_all [] = true
small_all (n ∷ ns) = leb (length n) 255 && small_all ns

-- names of 255 bytes, 32 attributes
unfoldable pub small_tag : Tag → Bool
small_tag v = leb (length v.name) 255 && (leb (length v.attributes) 32 && small_all v.attributes)

abbrev pub has : List ℕ → List (List ℕ) → Bool
has n [] = false
has n (m ∷ ns) = same n m || has n ns

-- some name stands twice
abbrev pub repeated : List (List ℕ) → Bool
repeated [] = false
repeated (n ∷ ns) = has n ns || repeated ns
