-- Two results that a public function's contract allows are equal: one theorem for each function, over the contract that the toolchain makes
-- of the source. No function here is lent anything that it could change, so the result is all that it hands back.
use mathlib.Core.Path.{sym, ◌∙◌}
use Rattle.contracts.specs.One.{OneResult}
use Rattle.points.proofs.allowed.is_char.Reads as is_char_lem
use Rattle.points.proofs.table.classes.Reads as classes
use Rattle.points.proofs.class.Classes.new.Reads as new
use Rattle.points.proofs.class.Classes.starts.Reads as starts
use Rattle.points.proofs.class.Classes.goes_on.Reads as goes_on
use Rattle.points.proofs.class.Classes.class_of.Reads as class_of

-- `allowed::is_char`
pub is_char_one : OneResult is_char_lem.Asked is_char_lem.Learnt
is_char_one κs a z z' e e' x p q = p ∙ sym q

-- `table::classes`
pub classes_one : OneResult classes.Asked classes.Learnt
classes_one κs a z z' e e' x p q = p ∙ sym q

-- `Classes::new`
pub new_one : OneResult new.Asked new.Learnt
new_one κs a z z' e e' x p q = p ∙ sym q

-- `Classes::starts`
pub starts_one : OneResult starts.Asked starts.Learnt
starts_one κs a z z' e e' x p q = p ∙ sym q

-- `Classes::goes_on`
pub goes_on_one : OneResult goes_on.Asked goes_on.Learnt
goes_on_one κs a z z' e e' x p q = p ∙ sym q

-- `Classes::class_of`
pub class_of_one : OneResult class_of.Asked class_of.Learnt
class_of_one κs a z z' e e' x p q = p ∙ sym q
