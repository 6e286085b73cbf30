-- Two results that a public function's contract allows are equal: one theorem for each function, over the contract that the toolchain makes
-- of the source. No function here is lent anything that it could change, so the result is all that it hands back.
use mathlib.Core.Path.{sym, ◌∙◌}
use Rattle.contracts.specs.One.{OneResult}
use Rattle.chars.proofs.Words.{first_once}
use Rattle.chars.proofs.whole.check.Reads as check
use Rattle.chars.proofs.text.stands.Reads as stands
use Rattle.chars.proofs.space.is_space.Reads as is_space_lem
use Rattle.chars.proofs.space.after_space.Reads as after_space
use Rattle.chars.proofs.name.ascii8.Reads as ascii8
use Rattle.chars.proofs.name.name_by.Reads as name_by
use Rattle.chars.proofs.name.name.Reads as name

-- `whole::check`
pub check_one : OneResult check.Asked check.Learnt
check_one κs a z z' e e' x p q = p ∙ sym q

-- `text::stands`
pub stands_one : OneResult stands.Asked stands.Learnt
stands_one κs a z z' e e' x p q = p ∙ sym q

-- `space::is_space`
pub is_space_one : OneResult is_space_lem.Asked is_space_lem.Learnt
is_space_one κs a z z' e e' x p q = p ∙ sym q

-- `space::after_space`
pub after_space_one : OneResult after_space.Asked after_space.Learnt
after_space_one κs a z z' e e' x p q = p ∙ sym q

-- `name::ascii8`
pub ascii8_one : OneResult ascii8.Asked ascii8.Learnt
ascii8_one κs a z z' e e' x p q = first_once p q

-- `name::name_by`
pub name_by_one : OneResult name_by.Asked name_by.Learnt
name_by_one κs a z z' e e' x p q = p ∙ sym q

-- `name::name`
pub name_one : OneResult name.Asked name.Learnt
name_one κs a z z' e e' x p q = p ∙ sym q
