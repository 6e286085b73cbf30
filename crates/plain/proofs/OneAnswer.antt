-- Two results that a public function's contract allows are equal: one theorem for each function, over the contract that the toolchain makes
-- of the source. No function here is lent anything that it could change, so the result is all that it hands back.
use mathlib.Core.Path.{sym, ◌∙◌}
use Rattle.contracts.specs.One.{OneResult}
use Rattle.plain.proofs.text.text.Reads as text
use Rattle.plain.proofs.comment.comment.Reads as comment
use Rattle.plain.proofs.section.section.Reads as section

-- `text::text`
pub text_one : OneResult text.Asked text.Learnt
text_one κs a z z' e e' x p q = p ∙ sym q

-- `comment::comment`
pub comment_one : OneResult comment.Asked comment.Learnt
comment_one κs a z z' e e' x p q = p ∙ sym q

-- `section::section`
pub section_one : OneResult section.Asked section.Learnt
section_one κs a z z' e e' x p q = p ∙ sym q
