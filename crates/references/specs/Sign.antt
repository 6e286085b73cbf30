-- The next character at a place, by what readers/specs/Sign finds there; and where characters stand, by its name in the grammar's words.
use Rattle.std.specs.Prelude.{List, ℕ, drop}
use Rattle.std.proofs.Math.Option.{Option, none, some}
use Rattle.xml.specs.Character.{character}
use Rattle.xml.specs.Sign.{Sign as Origin, literal, referred, Where as Stands, in_text, in_section, in_double, in_single}
use Rattle.utf8.specs.Place.{ends_at}
use Rattle.readers.specs.Sign.{Next, by_itself, next_of}
use Rattle.references.specs.declared.next.Where.{Where}
use Rattle.references.specs.declared.next.Where.TheVariants.{Text, Section, Double, Single}
use Rattle.references.specs.declared.next.Sign.{Sign}
use Rattle.references.specs.declared.next.Sign.TheVariants.{Literal, Referred, Nothing}

abbrev pub where_of : Where → Stands
where_of Text = in_text
where_of Section = in_section
where_of Double = in_double
where_of Single = in_single

abbrev pub sign_of : Origin → ℕ → Sign
sign_of (literal c) e = Literal c e
sign_of (referred c) e = Referred c e

abbrev pub sign_by : List ℕ → ℕ → Option Next → Sign
sign_by d at none = Nothing
sign_by d at (some x) = sign_of x.sign (ends_at d at x.rest)

unfoldable pub sign_at : Stands → List ℕ → ℕ → Sign
sign_at w d at = sign_by d at (next_of w (drop at d))

-- by a character that stands for itself alone
unfoldable pub itself_at : Stands → List ℕ → ℕ → Sign
itself_at w d at = sign_by d at (by_itself w (drop at d) (character (drop at d)))
