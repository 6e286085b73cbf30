-- What a literal character of a value is made, where it is not the LF of a CR LF: CR a LF, and then that, LF and tab a space.
use Rattle.std.specs.Prelude.{cond, ℕ, eqb}
use Rattle.xml.specs.Sign.{literal}
use Rattle.attributes.specs.Normal.{char_of}

unfoldable pub plain_of : ℕ → ℕ
plain_of c = char_of (literal (cond (eqb c 0xD) 0xA c))
