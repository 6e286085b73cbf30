-- RFC 4180 records, in document 02's words. In order: a field; the first field of a record; a record; the header. All are bytes.
use Rattle.std.specs.Prelude.{Bool, true, false, cond, ◌||◌, List, [], ◌∷◌, ◌++◌, ℕ, eqb}
use Rattle.xml.specs.Notation.{bytes}
use Rattle.xml.specs.Forest.{Name}

-- "a comma, a quote, CR or LF"
abbrev pub is_special : ℕ → Bool
is_special b = ((eqb b 0x2C || eqb b 0x22) || eqb b 0xD) || eqb b 0xA

abbrev pub special : List ℕ → Bool
special [] = false
special (b ∷ s) = is_special b || special s

-- "quotes inside are doubled"
abbrev pub doubled : List ℕ → List ℕ
doubled [] = []
doubled (b ∷ s) = cond (eqb b 0x22) (0x22 ∷ 0x22 ∷ doubled s) (b ∷ doubled s)

-- what stands of a text inside its field, by whether the field is quoted
abbrev pub inner : Bool → List ℕ → List ℕ
inner true s = doubled s
inner false s = s

-- the quote before it and after it
abbrev pub quote : Bool → List ℕ
quote true = 0x22 ∷ []
quote false = []

abbrev pub field_by : Bool → List ℕ → List ℕ
field_by q s = quote q ++ (inner q s ++ quote q)

-- "A field is quoted exactly when it holds a comma, a quote, CR or LF"
unfoldable pub field : List ℕ → List ℕ
field s = field_by (special s) s

-- "the names from the root joined by `/`": the element's own name stands first here, and the root's last
abbrev pub path_of : List Name → List ℕ
path_of [] = []
path_of (n ∷ []) = n
path_of (n ∷ m ∷ up) = path_of (m ∷ up) ++ (0x2F ∷ n)

-- "Every record .. ends in CR LF"
abbrev pub ended : List ℕ → List ℕ
ended s = s ++ (0xD ∷ 0xA ∷ [])

-- the record of the element of these names, with this text directly in it
unfoldable pub record_of : List Name → List ℕ → List ℕ
record_of up s = ended (field (path_of up) ++ (0x2C ∷ field s))

-- "the header `path,text`", which is a record "too"
unfoldable pub header : List ℕ
header = ended (bytes "path,text")
