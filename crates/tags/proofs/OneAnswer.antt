-- Two results that a public function's contract allows are equal: one theorem for each function, over the contract that the toolchain makes
-- of the source. No function here is lent anything that it could change, so the result is all that it hands back.
use mathlib.Core.Path.{sym, ◌∙◌}
use Rattle.contracts.specs.One.{OneResult}
use Rattle.tags.proofs.finish.end_tag.Reads as end_tag_lem
use Rattle.tags.proofs.tag.tag.Reads as tag
use Rattle.tags.proofs.usual.next_tag.Reads as next_tag
use Rattle.tags.proofs.names.same_name.Reads as same_name

-- `finish::end_tag`
pub end_tag_one : OneResult end_tag_lem.Asked end_tag_lem.Learnt
end_tag_one κs a z z' e e' x p q = p ∙ sym q

-- `tag::tag`
pub tag_one : OneResult tag.Asked tag.Learnt
tag_one κs a z z' e e' x p q = p ∙ sym q

-- `usual::next_tag`
pub next_tag_one : OneResult next_tag.Asked next_tag.Learnt
next_tag_one κs a z z' e e' x p q = p ∙ sym q

-- `names::same_name`
pub same_name_one : OneResult same_name.Asked same_name.Learnt
same_name_one κs a z z' e e' x p q = p ∙ sym q
