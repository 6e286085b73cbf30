-- Two results that a public function's contract allows are equal: one theorem for each function, over the contract that the toolchain makes
-- of the source. No function here is lent anything that it could change, so the result is all that it hands back.
use mathlib.Core.Path.{sym, ◌∙◌}
use Rattle.contracts.specs.One.{OneResult}
use Rattle.readers.proofs.Answers.{answers_reading}
use Rattle.instructions.proofs.instruction.instruction.Reads as instruction
use Rattle.instructions.proofs.declaration.declaration.Reads as declaration
use Rattle.instructions.proofs.declaration.names_other.Reads as names_other
use Rattle.instructions.proofs.steps.is_one_of.Reads as is_one_of
use Rattle.instructions.proofs.steps.space.Reads as space
use Rattle.instructions.proofs.steps.eq.Reads as eq

-- `instruction::instruction`
pub instruction_one : OneResult instruction.Asked instruction.Learnt
instruction_one κs a z z' e e' x p q = p ∙ sym q

-- `declaration::declaration`
pub declaration_one : OneResult declaration.Asked declaration.Learnt
declaration_one κs a z z' e e' x p q = p ∙ sym q

-- `declaration::names_other`
pub names_other_one : OneResult names_other.Asked names_other.Learnt
names_other_one κs a z z' e e' x p q = p ∙ sym q

-- `steps::is_one_of`
pub is_one_of_one : OneResult is_one_of.Asked is_one_of.Learnt
is_one_of_one κs a z z' e e' x p q = p ∙ sym q

-- `steps::space`
pub space_one : OneResult space.Asked space.Learnt
space_one κs a z z' e e' x p q = answers_reading p ∙ sym (answers_reading q)

-- `steps::eq`
pub eq_one : OneResult eq.Asked eq.Learnt
eq_one κs a z z' e e' x p q = answers_reading p ∙ sym (answers_reading q)
