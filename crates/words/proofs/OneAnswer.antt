-- Two results that a public function's contract allows are equal: one theorem for each function, over the contract that the toolchain makes
-- of the source. No function here is lent anything that it could change, so the result is all that it hands back.
use mathlib.Core.Path.{sym, ◌∙◌}
use Rattle.contracts.specs.One.{OneResult}
use Rattle.words.proofs.mask.marks.Reads as marks
use Rattle.words.proofs.mask.name_ends.Reads as name_ends
use Rattle.words.proofs.word.first.Reads as first
use Rattle.words.proofs.word.word_at.Reads as word_at

-- `mask::marks`
pub marks_one : OneResult marks.Asked marks.Learnt
marks_one κs a z z' e e' x p q = p ∙ sym q

-- `mask::name_ends`
pub name_ends_one : OneResult name_ends.Asked name_ends.Learnt
name_ends_one κs a z z' e e' x p q = p ∙ sym q

-- `word::first`
pub first_one : OneResult first.Asked first.Learnt
first_one κs a z z' e e' x p q = p ∙ sym q

-- `word::word_at`
pub word_at_one : OneResult word_at.Asked word_at.Learnt
word_at_one κs a z z' e e' x p q = p ∙ sym q
