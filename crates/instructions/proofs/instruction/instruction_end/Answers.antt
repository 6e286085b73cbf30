-- What follows the target: one law for each return is in Instructions.
-- The sum after the second `?>` fits, since the text stands inside the document.
use borrow.Author.Rules.{rules}
use native.Mathlib.Omega.{arith}
use Rattle.instructions.proofs.Over.{two_inside}
use Rattle.instructions.proofs.Instructions.{ending}
use Rattle.instructions.proofs.instruction.instruction_end.Goals as goal

pub returns-then-stands : goal.returns-then-stands
returns-then-stands c = search (ending, rules)

pub returns-then-at-doc : goal.returns-then-at-doc
returns-then-at-doc c = search (ending, rules)

pub returns-then-not-is_space : goal.returns-then-not-is_space
returns-then-not-is_space c = search (ending, rules)

pub overflow_add-result-then-stands-2 : goal.overflow_add-result-then-stands-2
overflow_add-result-then-stands-2 c =
    let d = c.args.doc.now in
    omega (arith, two_inside d c.seek-k.result 0x3F 0x3E c.stands-2.ensures c.if-stands-2.true)

pub returns-then-stands-2 : goal.returns-then-stands-2
returns-then-stands-2 c = search (ending, rules)

pub returns : goal.returns
returns c = search (ending, rules)
