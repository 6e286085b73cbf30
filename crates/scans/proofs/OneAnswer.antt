-- Two results that a public function's contract allows are equal: one theorem for each function, over the contract that the toolchain makes
-- of the source. No function here is lent anything that it could change, so the result is all that it hands back.
use mathlib.Core.Path.{sym, ◌∙◌}
use Rattle.contracts.specs.One.{OneResult}
use Rattle.chars.proofs.Words.{first_once}
use Rattle.scans.proofs.byte.after_byte.Reads as after_byte
use Rattle.scans.proofs.mark.before16.Reads as before16
use Rattle.scans.proofs.mark.to_mark.Reads as to_mark
use Rattle.scans.proofs.seek.seek.Reads as seek

-- `byte::after_byte`
pub after_byte_one : OneResult after_byte.Asked after_byte.Learnt
after_byte_one κs a z z' e e' x p q = p ∙ sym q

-- `mark::before16`
pub before16_one : OneResult before16.Asked before16.Learnt
before16_one κs a z z' e e' x p q = first_once p q

-- `mark::to_mark`
pub to_mark_one : OneResult to_mark.Asked to_mark.Learnt
to_mark_one κs a z z' e e' x p q = p ∙ sym q

-- `seek::seek`
pub seek_one : OneResult seek.Asked seek.Learnt
seek_one κs a z z' e e' x p q = p ∙ sym q
