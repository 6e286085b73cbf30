-- The whole document's characters: all of them are Char of [2], or the first sequence that is none begins at a place. specs/Meaning.antt
-- says what each answer says.
use Rattle.std.specs.Prelude.{List, [], ◌∷◌, ℕ, ◌-◌, length, Result, Ok, Err}
use Rattle.xml.specs.Character.{run}
use Rattle.xml.specs.Productions.{is_char}
use Rattle.chars.specs.declared.whole.CharError.{CharError}

-- of n bytes, the Chars at the front left t
abbrev pub checked_by : ℕ → List ℕ → Result Unit CharError
checked_by n [] = Ok tt
checked_by n (a ∷ t) = Err (record { valid_up_to = n - length (a ∷ t) })

unfoldable pub check_of : List ℕ → Result Unit CharError
check_of d = checked_by (length d) (run is_char 0 d)
