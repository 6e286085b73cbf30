-- What a reader says in the grammar's words: it decides a production, both ways, wherever only characters are left; those of the
-- declaration on any bytes. In order: a reader that decides; text; what an end tag and a tag hold. proofs/ shows it for each reader.
use Rattle.std.specs.Prelude.{◌≡◌, Bool, true, false, List, [], ◌++◌, ◌⊎◌, ℕ}
use Rattle.std.proofs.Math.Option.{Option, some}
use Rattle.xml.specs.Notation.{Rule, Reads, Star, ◌∣◌, text, opt}
use Rattle.xml.specs.Productions.{Char, CharData, S, Name}
use Rattle.xml.specs.Document.{Attributes}
use Rattle.readers.specs.Named.{Piece, Tag}

-- only characters of [2] are left
abbrev pub Chars : List ℕ → Type 0
Chars s = Star (Reads Char) s []

-- where a reader is asked: where only characters are left, or anywhere, on bytes that nobody has looked at
pub data Rest : Type 0 where
  characters anything : Rest

abbrev pub Holds : Rest → List ℕ → Type 0
Holds characters s = Chars s
Holds anything s = Unit {0}

pub record DecidesOn (o : Rest) (r : Rule) (f : List ℕ → Option (List ℕ)) : Type 0 where
  pub sound : {s t : List ℕ} → Holds o s → f s ≡ some t → Reads r s t
  pub complete : {s t : List ℕ} → Holds o s → Reads r s t → f s ≡ some t

abbrev pub Decides : Rule → (List ℕ → Option (List ℕ)) → Type 0
Decides = DecidesOn characters

-- text goes up to the next `<`, `&` or the end
pub record TextIs (s t : List ℕ) : Type 0 where
  pub reads : Reads CharData s t
  pub stops : (t ≡ []) ⊎ ((u : List ℕ) × Reads (text "<" ∣ text "&") t u)

-- ---- end tags: '</' Name S? '>'

pub record EndTagIs (s : List ℕ) (v : Piece) : Type 0 where
  pub from : List ℕ
  pub to : List ℕ
  pub last : List ℕ
  pub opens : Reads (text "</") s from
  pub named : Reads Name from to
  pub name_is : from ≡ v.name ++ to
  pub blank : Reads (opt S) to last
  pub closes : Reads (text ">") last v.rest

-- ---- tags: '<' Name (S Attribute)* S? and then '>' or '/>'

abbrev pub tag_end : Bool → Rule
tag_end true = text "/>"
tag_end false = text ">"

pub record TagIs (s : List ℕ) (v : Tag) : Type 0 where
  pub from : List ℕ
  pub to : List ℕ
  pub after : List ℕ
  pub last : List ℕ
  pub opens : Reads (text "<") s from
  pub named : Reads Name from to
  pub name_is : from ≡ v.name ++ to
  pub attributes : Attributes v.attributes to after
  pub blank : Reads (opt S) after last
  pub head_is : s ≡ v.head ++ last
  pub closes : Reads (tag_end v.empty) last v.rest
